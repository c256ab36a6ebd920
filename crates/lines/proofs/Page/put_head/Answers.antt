-- `Page::put_head` meets its contract: the entry's number, a space and the kind's digits are written one after the
-- other. Assumes nothing.
use Rattle.lines.proofs.Parts.{put_then}
use Rattle.lines.proofs.Page.put_head.Goals as goal

pub returns : goal.returns
returns c =
    let head = put_then c.put_decimal.ensures (put_then c.put.ensures c.put_decimal-2.ensures) in
    rw (← c.kind.ensures) head

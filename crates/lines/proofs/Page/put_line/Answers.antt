-- `Page::put_line` meets its contract: the head, the five words and the LF are written one after the other. Assumes
-- nothing.
use mathlib.Core.Path.{◌≡◌}
use native.Mathlib.Omega.{arith}
use Rattle.lines.proofs.Parts.{put_then, line_begun, line_more, line_ended}
use Rattle.lines.proofs.Page.put_line.Goals as goal

pub loop-j-init : goal.loop-j-init
unfolding line_begun
loop-j-init c = c.put_head.ensures

pub loop-j-preserved : goal.loop-j-preserved
loop-j-preserved c = line_more _ _ _ _ c.loop-j.invariant c.put_word.ensures

pub returns : goal.returns
returns c =
    let args = c.args in
    let five : c.loop-j.j ≡ 5 = omega arith in
    let whole = put_then (rw five at c.loop-j.invariant) c.put.ensures in
    rw (line_ended args.sheet.now args.answers.now args.i) at whole

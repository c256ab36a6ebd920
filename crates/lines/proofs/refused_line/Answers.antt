-- `lines::refused_line` meets its contract: the five parts are written one after the other. Assumes nothing.
use mathlib.Core.Path.{refl}
use native.Mathlib.Omega.{arith}
use Rattle.std.proofs.Common.{rules}
use Rattle.lines.specs.Lines.{refused_line}
use Rattle.lines.proofs.Parts.{put_then, put_written}
use Rattle.lines.proofs.refused_line.Goals as goal

pub returns : goal.returns
unfolding refused_line
returns c =
    let one = put_then c.put.ensures c.put_decimal.ensures in
    let two = put_then one c.put-2.ensures in
    let three = put_then two c.put_decimal-2.ensures in
    let whole = put_then three c.put-3.ensures in
    let same = whole.same in
    let all = put_written (omega arith) refl whole in
    search (rules, all, same)

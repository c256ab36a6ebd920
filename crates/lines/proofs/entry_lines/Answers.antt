-- `lines::entry_lines` meets its contract. The loop's invariant: what is left, written at the place reached, gives the
-- whole. Assumes nothing.
use mathlib.Core.Path.{◌≡◌, refl}
use Prim.Native.Nat.{◌-◌, ◌*◌}
use native.Mathlib.Nat.{sub-zero}
use native.Mathlib.Omega.{arith}
use Rattle.std.proofs.Common.{rules}
use Rattle.lines.specs.Lines.{lines_from, lines_of, Put}
use Rattle.lines.proofs.Parts.{put_within, put_nothing, put_lines, put_written}
use Rattle.lines.proofs.entry_lines.Goals as goal

pub loop-i-init : goal.loop-i-init
loop-i-init c = (omega arith, omega arith, λ end h. rw sub-zero at h)

pub loop-i-preserved : goal.loop-i-preserved
loop-i-preserved c =
    let args = c.args in
    let line = c.put_line.ensures in (
      omega arith,
      put_within line,
      λ end h. c.loop-i.invariant.2 end (put_lines args.sheet.now args.answers.now c.loop-i.i _ (omega arith) line h),
    )

pub returns : goal.returns
unfolding lines_from lines_of
returns c =
    let args = c.args in
    let i = c.loop-i.i in
    let k = c.count-i-end.result in
    let page = c.loop-i.page in
    let none : k - i ≡ 0 = omega arith in
    let left : Put (53 * (k - i)) (lines_from args.sheet.now args.answers.now i (k - i)) page page =
    rw none (put_nothing c.loop-i.invariant.1) in
    let put = c.loop-i.invariant.2 page left in
    let same = put.same in
    let all = put_written (omega arith) refl put in
    rw (← c.count-i-end.ensures) (search (rules, all, same))

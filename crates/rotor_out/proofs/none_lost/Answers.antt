-- `rotor_out::none_lost` meets its contract: the four motors are those of the quad's rows. Assumes nothing.
use mathlib.Core.Path.{◌≡◌, refl, ◌∙◌}
use mathlib.Core.List.{[]}
use Prim.Native.Nat.{ℕ}
use lib.ListN.{get_or}
use lib.Ieee.{nan}
use Rattle.std.proofs.Common.{rules}
use Rattle.general.proofs.Four.{four}
use Rattle.rules.specs.Rows.{quad_rows}
use Rattle.rules.specs.RotorOut.{tilt_motor}
use Rattle.rotor_out.proofs.none_lost.Goals as goal

pub returns : goal.returns
unfolding quad_rows
returns c =
    let asked = c.args.asked in
    let m = λ (i : ℕ). tilt_motor asked.floor asked.thrust asked.roll asked.pitch (get_or quad_rows i []) in
    let first : get_or c.from_fn.result 0 nan ≡ m 0 = search rules in
    let second : get_or c.from_fn.result 1 nan ≡ m 1 = search rules in
    let third : get_or c.from_fn.result 2 nan ≡ m 2 = search rules in
    let fourth : get_or c.from_fn.result 3 nan ≡ m 3 = search rules in
    four c.from_fn.result c.from_fn.ensures.items.long ∙ rw (first, second, third, fourth) refl

-- `solve::solve3` meets its contract. It returns at one place where the determinant is singular and at another where it
-- is not, and each answer is that case of `solution`: the code's `det` stands for the determinant in it, and the
-- results of `unknown` for the three unknowns. Assumes nothing.
use mathlib.Core.Path.{◌≡◌, refl, ap, ◌∙◌}
use Prim.Native.Nat.{ℕ}
use lib.ListN.{get_or}
use lib.Ieee.{nan}
use Rattle.std.proofs.Common.{rules}
use Rattle.std.specs.Prelude.{Some}
use Rattle.general.proofs.Four.{three}
use Rattle.solve.specs.Solve.{cramer, solution}
use Rattle.solve.proofs.solve3.Goals as goal

pub returns-then-is_singular : goal.returns-then-is_singular
unfolding solution
returns-then-is_singular c = simp (← c.det3-det.ensures, ← c.is_singular.ensures, c.if-is_singular.true)

pub returns : goal.returns
unfolding solution
returns c =
    let items = c.from_fn.ensures.items in
    let x = λ (k : ℕ). cramer c.args.a k c.args.rhs c.det3-det.result in
    let first : get_or c.from_fn.result 0 nan ≡ x 0 = search rules in
    let second : get_or c.from_fn.result 1 nan ≡ x 1 = search rules in
    let third : get_or c.from_fn.result 2 nan ≡ x 2 = search rules in
    simp (← c.det3-det.ensures, ← c.is_singular.ensures, c.if-is_singular.false)
    (ap Some (three nan c.from_fn.result items.long ∙ rw (first, second, third) refl))

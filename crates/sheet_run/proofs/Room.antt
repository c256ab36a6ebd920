-- Refusal 9 cannot occur for an output of 1,280 bytes: an accepted sheet has at most 64 entries, and 9 is none of a
-- sheet's own numbers. Assumes nothing.
use mathlib.Core.Path.{◌≡◌, refl, sym, ap, ◌∙◌}
use mathlib.Core.Bool.{Bool, true, false}
use mathlib.Core.List.{List}
use Prim.Native.Nat.{ℕ, ◌≤◌}
use native.Mathlib.Omega.{arith}
use lib.Dec.{eqb}
use borrow.Author.Tests.{eqb-true}
use Rattle.refusals.specs.Numbers.{accepted, short_output}
use Rattle.refusals.specs.Told.{Told}
use Rattle.sheet.specs.Table.{judged}
use Rattle.sheet.proofs.Accepted.{is_accepted_lem}
use Rattle.sheet.proofs.Numbers.{never_nine}
use Rattle.sheet_run.specs.Run.{judged_for}
use Rattle.sheet_run.proofs.Judged.{output_fits, told_before}

-- with that much room a run is told what its sheet is told
pub room_enough : (s : List ℕ) (room : ℕ) → 1280 ≤ room → (judged_for s room).number ≡ (judged s).number
room_enough s room h = go (eqb (judged s).number accepted) refl
  where
    go : (t : Bool) → eqb (judged s).number accepted ≡ t → (judged_for s room).number ≡ (judged s).number
    go true e =
        let is = eqb-true (judged s).number accepted e in
        let few = (is_accepted_lem s is).few in
        ap (λ (t : Told). t.number) (output_fits s room is (omega arith)) ∙ sym is
    go false e = told_before s room e

-- which is never 9
pub never_short : (s : List ℕ) (room : ℕ) → 1280 ≤ room → (judged_for s room).number ≡ short_output → ⊥
never_short s room h e = never_nine s (sym (room_enough s room h) ∙ e)

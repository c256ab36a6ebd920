-- Refusal 9 after 1 to 8. Assumes nothing.
use mathlib.Core.Path.{◌≡◌}
use mathlib.Core.Bool.{false}
use mathlib.Core.List.{List}
use Prim.Native.Nat.{ℕ, ◌*◌, ◌≤◌, ◌<◌}
use lib.Dec.{ltb, eqb}
use borrow.Author.Tests.{lt-ltb, le-ltb, ltb-false}
use Rattle.refusals.specs.Numbers.{accepted, short_output}
use Rattle.refusals.specs.Told.{alone, at_entry}
use Rattle.refusals.proofs.First.{not_given, entry_passed}
use Rattle.entries.specs.declared.refusal.Refusal.{Refusal}
use Rattle.entries.specs.Layout.{count_of}
use Rattle.entries.specs.Refusal.{refusal_number}
use Rattle.entries.proofs.Chosen.{never_accepted}
use Rattle.sheet.specs.Table.{judged}
use Rattle.sheet_run.specs.Run.{judged_for}

module _ (s : List ℕ) (room : ℕ) where
  -- a refused sheet stays refused
  pub refused_before : (r : Refusal) (i : ℕ) → record { number = refusal_number r; of_entry = i } ≡ judged s
      → record { number = refusal_number r; of_entry = i } ≡ judged_for s room
  unfolding judged_for at_entry
  refused_before r i e = rw (← e, never_accepted r)

  pub told_before : eqb (judged s).number accepted ≡ false → (judged_for s room).number ≡ (judged s).number
  unfolding judged_for at_entry
  told_before h = rw h

  module _ (is : (judged s).number ≡ accepted) where
    pub output_short : room < 20 * count_of s → judged_for s room ≡ alone short_output
    unfolding judged_for at_entry
    output_short h = rw (is, lt-ltb room (20 * count_of s))

    pub output_fits : 20 * count_of s ≤ room → judged_for s room ≡ alone accepted
    unfolding judged_for at_entry
    output_fits h = rw (is, le-ltb room (20 * count_of s))

-- an accepted run has an accepted sheet, and room for its answers
pub accepted_for : (s : List ℕ) (room : ℕ) → (judged_for s room).number ≡ accepted
    → ((judged s).number ≡ accepted) × (20 * count_of s ≤ room)
unfolding judged_for
accepted_for s room h =
    let parts = entry_passed (judged s).number (judged s).of_entry _ h in
    (parts.0, ltb-false room (20 * count_of s) (not_given (ltb room (20 * count_of s)) 8 parts.1))

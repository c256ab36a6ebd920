-- Refusal 7 after 5 and 6: what an entry is told once its kind and its rotor byte are looked at. Assumes nothing.
use mathlib.Core.Path.{◌≡◌, ap, ◌∙◌}
use mathlib.Core.Bool.{not}
use mathlib.Core.List.{List, [], ◌∷◌}
use Prim.Native.Nat.{ℕ, suc}
use lib.Dec.{eqb}
use borrow.Author.Tests.{eq-eqb, ne_eqb, eqb-true, not-false}
use Rattle.refusals.specs.Numbers.{accepted, bad_offset}
use Rattle.refusals.specs.Told.{given, first, alone, at_entry}
use Rattle.refusals.proofs.First.{not_given, first_passed, first_decides, next_decides, told_here}
use Rattle.entries.specs.declared.choice.Case.{Case}
use Rattle.std.specs.declared.result.Result.TheVariants.{Ok, Err}
use Rattle.entries.specs.declared.refusal.Refusal.{Refusal}
use Rattle.entries.specs.Layout.{kind_of, rotor_of, offset_of}
use Rattle.entries.specs.Refusal.{refusal_number}
use Rattle.entries.specs.Choice.{choice_number, ChosenBy}
use Rattle.entries.proofs.Chosen.{never_accepted, chosen_case, chosen_refusal}
use Rattle.sheet.specs.Table.{entry_number, entry_told}

module _ (s : List ℕ) (i end : ℕ) where
  -- a refusal by the kind or the rotor byte comes first
  choice_first : {r : Refusal} → ChosenBy (kind_of s i) (rotor_of s i) (Err r) → entry_number s i end
      ≡ refusal_number r
  unfolding entry_number
  choice_first {r} h =
      first_decides (choice_number (kind_of s i) (rotor_of s i)) _ (rw (chosen_refusal h) (never_accepted r))
      ∙ chosen_refusal h

  pub refused_before : {r : Refusal} → ChosenBy (kind_of s i) (rotor_of s i) (Err r)
      → entry_told s i end ≡ record { number = refusal_number r; of_entry = i }
  refused_before {r} h =
      ap (λ (n : ℕ). at_entry n i (alone accepted)) (choice_first h)
      ∙ told_here (refusal_number r) i (alone accepted) (never_accepted r)

  -- and else the offset decides
  module _ {c : Case} (is : ChosenBy (kind_of s i) (rotor_of s i) (Ok c)) where
    offset_next : entry_number s i end ≡ first (given (not (eqb (offset_of s i) end)) bad_offset ∷ [])
    unfolding entry_number
    offset_next = next_decides (choice_number (kind_of s i) (rotor_of s i)) _ (chosen_case is).0

    -- a command with its body elsewhere
    pub offset_refused : (offset_of s i ≡ end → ⊥) → entry_told s i end ≡ record { number = bad_offset; of_entry = i }
    unfolding first at_entry
    offset_refused d = rw (offset_next, ne_eqb (offset_of s i) end d)

    -- a command with its body in its place
    pub in_place : offset_of s i ≡ end → entry_told s i end ≡ alone accepted
    unfolding first at_entry
    in_place e = rw (offset_next, eq-eqb (offset_of s i) end e)

-- a test that something differs, not given
pub same : (a b n : ℕ) → given (not (eqb a b)) (suc n) ≡ accepted → a ≡ b
same a b n h = eqb-true a b (not-false (eqb a b) (not_given (not (eqb a b)) n h))

-- an entry that is not refused has passed 5 to 7
pub entry_good : (s : List ℕ) (i end : ℕ) → entry_number s i end ≡ accepted
    → (choice_number (kind_of s i) (rotor_of s i) ≡ accepted) × (offset_of s i ≡ end)
unfolding entry_number
entry_good s i end h =
    let parts = first_passed _ _ h in (parts.0, same (offset_of s i) end 6 (first_passed _ _ parts.1).0)

-- What an accepted sheet is known by: it has passed every line of the table. Assumes nothing.
use mathlib.Core.Path.{◌≡◌, refl, sym, ◌∙◌}
use mathlib.Core.Bool.{not}
use mathlib.Core.List.{List}
use Prim.Native.Nat.{ℕ, zero, suc, ◌+◌, ◌≤◌, ◌<◌}
use native.Mathlib.Nat.{add-zero, add-suc, suc-add, zero-add, not-suc-le-zero, le_of_suc-le-suc}
use lib.Dec.{ltb, eqb}
use lib.ListN.{length}
use borrow.Author.Tests.{ltb-false, eqb-true, eqb-false, not-false}
use Rattle.general.proofs.Neither.{neither}
use Rattle.refusals.specs.Numbers.{accepted}
use Rattle.refusals.proofs.First.{not_given, first_passed, entry_passed}
use Rattle.entries.specs.Layout.{version_of, count_of, length_field, entry_at, kind_of, rotor_of, offset_of, body_at}
use Rattle.std.specs.Result.{IsOk}
use Rattle.std.specs.declared.result.Result.{Result}
use Rattle.std.specs.declared.result.Result.TheVariants.{Ok, Err}
use Rattle.entries.specs.declared.choice.Case.{Case}
use Rattle.entries.specs.declared.refusal.Refusal.{Refusal}
use Rattle.entries.specs.Refusal.{refusal_number}
use Rattle.entries.specs.Choice.{choice_number, ChosenBy}
use Rattle.entries.proofs.Chosen.{never_accepted, chosen_refusal}
use Rattle.sheet.proofs.Entry.{same, entry_good}
use Rattle.sheet.specs.Table.{entry_number, max_entries, head_number, end_number, entries_told, judged}

-- what each entry of an accepted sheet is
pub record Good (s : List ℕ) (i : ℕ) : Type 0 where
  pub chosen : choice_number (kind_of s i) (rotor_of s i) ≡ accepted
  pub kind : kind_of s i ≤ 4
  pub offset : offset_of s i ≡ body_at s i

pub record Accepted (s : List ℕ) : Type 0 where
  pub version : version_of s ≡ 1
  pub few : count_of s ≤ max_entries
  pub whole : length_field s ≡ length s
  pub contents : entry_at (count_of s) ≤ length s
  pub entries : (i : ℕ) → i < count_of s → Good s i
  pub ends : body_at s (count_of s) ≡ length s

-- ---- an entry

good : (s : List ℕ) (i : ℕ) → entry_number s i (body_at s i) ≡ accepted → Good s i
unfolding choice_number
good s i h =
    let (chosen, offset) = entry_good s i (body_at s i) h in
    record {
      chosen = chosen;
      kind = ltb-false 4 (kind_of s i) (not_given (ltb 4 (kind_of s i)) 4 (first_passed _ _ chosen).0);
      offset = offset;
    }

-- ---- the entries, and the end

entries_good : (s : List ℕ) (i left : ℕ) → (entries_told s i left).number ≡ accepted → (j : ℕ) → j < left
    → Good s (i + j)
unfolding entries_told
entries_good s i zero h j l = absurd (not-suc-le-zero l)
entries_good s i (suc left) h zero l = rw add-zero (good s i (entry_passed _ _ _ h).0)
entries_good s i (suc left) h (suc j) l =
    rw (add-suc, ← suc-add) (entries_good s (suc i) left (entry_passed _ _ _ h).1 j (le_of_suc-le-suc l))

end_good : (s : List ℕ) (i left : ℕ) → (entries_told s i left).number ≡ accepted → end_number s ≡ accepted
unfolding entries_told
end_good s i zero h = h
end_good s i (suc left) h = end_good s (suc i) left (entry_passed _ _ _ h).1

-- ---- the sheet

pub is_accepted_lem : (s : List ℕ) → (judged s).number ≡ accepted → Accepted s
unfolding judged head_number end_number
is_accepted_lem s h =
    let parts = entry_passed (head_number s) 0 _ h in
    let at_1 = first_passed _ _ parts.0 in
    let at_2 = first_passed _ _ at_1.1 in
    let at_3 = first_passed _ _ at_2.1 in
    let at_4 = first_passed _ _ at_3.1 in
    let lengths =
    neither (not (eqb (length_field s) (length s))) (ltb (length s) (entry_at (count_of s))) (not_given _ 3 at_4.0) in
    record {
      version = same (version_of s) 1 1 at_2.0;
      few = ltb-false max_entries (count_of s) (not_given _ 2 at_3.0);
      whole = eqb-true (length_field s) (length s) (not-false _ lengths.0);
      contents = ltb-false (length s) (entry_at (count_of s)) lengths.1;
      entries = λ i l. rw zero-add at (entries_good s 0 (count_of s) parts.1 i l);
      ends = same (body_at s (count_of s)) (length s) 7 (end_good s 0 (count_of s) parts.1);
    }

-- none of its entries is refused by its kind or its rotor byte
pub never_refused : {s : List ℕ} {i : ℕ} {r : Refusal} → Accepted s → i < count_of s
    → ChosenBy (kind_of s i) (rotor_of s i) (Err r) → ⊥
never_refused {s} {i} {r} known under h =
    let number : refusal_number r ≡ accepted = sym (chosen_refusal h) ∙ (known.entries i under).chosen in
    eqb-false (refusal_number r) accepted (never_accepted r) number

-- so each is a command
pub is_command : {s : List ℕ} {i : ℕ} (r : Result Case Refusal) → Accepted s → i < count_of s
    → ChosenBy (kind_of s i) (rotor_of s i) r → IsOk r
is_command (Ok c) known under h = refl
is_command (Err r) known under h = absurd (never_refused known under h)

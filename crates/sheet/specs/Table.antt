-- The refusal rule of a sheet, 1 to 8 (the table in document 01, 'The command sheet (ours)'): "given exactly when,
-- first that applies". Definitions only; the quotations are document 01's.
use Rattle.std.specs.Prelude.{not, ◌||◌, List, [], ◌∷◌, ℕ, zero, suc, ltb, eqb, length, Result, Ok, Err}
use Rattle.refusals.specs.Numbers.{accepted, too_short, bad_version, too_many, bad_length, bad_offset, bad_end}
use Rattle.refusals.specs.Told.{given, first, Told, alone, at_entry}
use Rattle.entries.specs.Layout.{version_of, count_of, length_field, entry_at, kind_of, rotor_of, offset_of, body_at}
use Rattle.entries.specs.declared.refusal.Refusal.{Refusal}
use Rattle.entries.specs.Refusal.{refusal_number}
use Rattle.entries.specs.Choice.{choice_number}
use Rattle.sheet.specs.declared.Refused.{Refused}

-- "entry count k, 0..64"
abbrev pub max_entries : ℕ
max_entries = 64

-- 1 to 4
unfoldable pub head_number : List ℕ → ℕ
head_number s =
    first
    (given (ltb (length s) 4) too_short
    ∷ given (not (eqb (version_of s) 1)) bad_version
    ∷ given (ltb max_entries (count_of s)) too_many
    ∷ given (not (eqb (length_field s) (length s)) || ltb (length s) (entry_at (count_of s))) bad_length
    ∷ [])

-- 5 and 6, then "offset is not the previous body's end", which is at `end`
unfoldable pub entry_number : List ℕ → ℕ → ℕ → ℕ
entry_number s i end =
    first (choice_number (kind_of s i) (rotor_of s i) ∷ given (not (eqb (offset_of s i) end)) bad_offset ∷ [])

-- what entry i by itself is told: one of these with the entry number, or that nothing is wrong with it
abbrev pub entry_told : List ℕ → ℕ → ℕ → Told
entry_told s i end = at_entry (entry_number s i end) i (alone accepted)

-- "last body's end (k = 0: 4) is not the length"
unfoldable pub end_number : List ℕ → ℕ
end_number s = given (not (eqb (body_at s (count_of s)) (length s))) bad_end

-- "5 to 7 are tried in that order entry by entry and come with the entry number; other numbers come with 0": those of
-- `left` entries from entry i on, and then 8
unfoldable pub entries_told : List ℕ → ℕ → ℕ → Told
entries_told s i zero = alone (end_number s)
entries_told s i (suc left) = at_entry (entry_number s i (body_at s i)) i (entries_told s (suc i) left)

-- what a sheet is told
unfoldable pub judged : List ℕ → Told
judged s = at_entry (head_number s) 0 (entries_told s 0 (count_of s))

-- "other numbers come with 0": a refusal that is about no entry
abbrev pub of_sheet : Refusal → Refused
of_sheet why = record { why = why; entry = 0 }

-- the paper's number and entry number for each answer
abbrev pub told_by : Result Unit Refused → Told
told_by (Ok tt) = alone accepted
told_by (Err r) = record { number = refusal_number r.why; of_entry = r.entry }

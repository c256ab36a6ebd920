-- The numbers that a sheet by itself can be told, just these, and that 9, which is about an output, is none of them.
-- Assumes nothing.
use mathlib.Core.Path.{◌≡◌, refl, subst}
use mathlib.Core.Bool.{Bool, false, not, ◌&&◌, ◌||◌}
use mathlib.Core.List.{List, [], ◌∷◌, map}
use Prim.Native.Nat.{ℕ, zero, suc}
use lib.Dec.{T, ltb, eqb}
use lib.ListN.{length}
use Rattle.refusals.specs.Numbers.{accepted, too_short, bad_version, too_many, bad_length}
use Rattle.refusals.specs.Numbers.{bad_kind, bad_rotor, bad_offset, bad_end, short_output}
use Rattle.refusals.specs.Told.{given, first, at_entry}
use Rattle.refusals.proofs.First.{given_keeps, first_keeps, entry_keeps}
use Rattle.wire.specs.Bytes.{little_endian, read_at}
use Rattle.entries.specs.Layout.{version_of, count_of, length_field, entry_at, kind_of, rotor_of, offset_of}
use Rattle.entries.specs.Layout.{body_size, body_at}
use Rattle.entries.specs.Choice.{choice_number}
use Rattle.sheet.specs.Table.{max_entries, entry_number, head_number, end_number, entries_told, judged}

-- ---- a sheet's own numbers

abbrev pub sheet_numbers : List ℕ
sheet_numbers = accepted ∷ too_short ∷ bad_version ∷ too_many ∷ bad_length ∷ bad_kind ∷ bad_rotor ∷ bad_offset ∷
    bad_end ∷ []

-- whether n is one of some numbers
abbrev pub is_one_of : List ℕ → ℕ → Bool
is_one_of [] n = false
is_one_of (m ∷ ms) n = eqb m n || is_one_of ms n

abbrev pub SheetNumber : ℕ → Type 0
SheetNumber n = T (is_one_of sheet_numbers n)

-- ---- whatever a sheet is told is one of them: an entry, the entries, the sheet

-- a line of the table
line : (applies : Bool) (n : ℕ) → SheetNumber n → SheetNumber (given applies n)
line = given_keeps SheetNumber tt

choice_own : (kind rotor : ℕ) → SheetNumber (choice_number kind rotor)
unfolding choice_number
choice_own kind rotor = first_keeps SheetNumber tt _
    (line (ltb 4 kind) bad_kind tt, (line (not (eqb kind 4) && not (eqb rotor 0)) bad_rotor tt, tt))

entry_own : (s : List ℕ) (i end : ℕ) → SheetNumber (entry_number s i end)
unfolding entry_number
entry_own s i end =
    first_keeps SheetNumber tt _
    (choice_own (kind_of s i) (rotor_of s i), (line (not (eqb (offset_of s i) end)) bad_offset tt, tt))

head_own : (s : List ℕ) → SheetNumber (head_number s)
unfolding head_number
head_own s = first_keeps SheetNumber tt _ (
  line (ltb (length s) 4) too_short tt,
  (
    line (not (eqb (version_of s) 1)) bad_version tt,
    (
      line (ltb max_entries (count_of s)) too_many tt,
      (line (not (eqb (length_field s) (length s)) || ltb (length s) (entry_at (count_of s))) bad_length tt, tt),
    ),
  ),
)

entries_own : (s : List ℕ) (i left : ℕ) → SheetNumber (entries_told s i left).number
unfolding entries_told end_number
entries_own s i zero = line (not (eqb (body_at s (count_of s)) (length s))) bad_end tt
entries_own s i (suc left) = entry_keeps SheetNumber _ _ _ (entry_own s i (body_at s i)) (entries_own s (suc i) left)

pub judged_own : (s : List ℕ) → SheetNumber (judged s).number
unfolding judged
judged_own s = entry_keeps SheetNumber _ 0 _ (head_own s) (entries_own s 0 (count_of s))

-- ---- so it is never 9

pub never_nine : (s : List ℕ) → (judged s).number ≡ short_output → ⊥
never_nine s e = subst SheetNumber e (judged_own s)

-- ---- and the list has none too many: each is told of some sheet

-- a sheet for each, in the list's order
pub sheets : List (List ℕ)
sheets =
    (1 ∷ 0 ∷ 4 ∷ 0 ∷ [])
    ∷ []
    ∷ (2 ∷ 0 ∷ 4 ∷ 0 ∷ [])
    ∷ (1 ∷ 65 ∷ 4 ∷ 0 ∷ [])
    ∷ (1 ∷ 0 ∷ 5 ∷ 0 ∷ [])
    ∷ (1 ∷ 1 ∷ 8 ∷ 0 ∷ 5 ∷ 0 ∷ 8 ∷ 0 ∷ [])
    ∷ (1 ∷ 1 ∷ 8 ∷ 0 ∷ 0 ∷ 1 ∷ 8 ∷ 0 ∷ [])
    ∷ (1 ∷ 1 ∷ 8 ∷ 0 ∷ 0 ∷ 0 ∷ 9 ∷ 0 ∷ [])
    ∷ (1 ∷ 1 ∷ 8 ∷ 0 ∷ 0 ∷ 0 ∷ 8 ∷ 0 ∷ [])
    ∷ []

pub each_told : map (λ (s : List ℕ). (judged s).number) sheets ≡ sheet_numbers
unfolding sheets judged head_number end_number entries_told entry_number choice_number first at_entry body_at body_size
    read_at little_endian
each_told = refl

-- The rows that a run of numbers holds, found by their place; how many they are; and that they are its chunks of four.
-- Assumes nothing.
use mathlib.Core.Path.{◌≡◌, refl, ap}
use mathlib.Core.List.{List, [], ◌∷◌}
use Prim.Native.Nat.{ℕ, zero, suc, ◌+◌, ◌*◌, ◌/◌, ◌<◌}
use native.Mathlib.Omega.{arith}
use lib.ListN.{length, get_or}
use lib.Ieee.{Float, nan}
use Rattle.std.specs.Simd.{first_chunks}
use Rattle.rules.specs.Rows.{Row, rows_of, no_row, row_at}

-- ---- the rows of a run

-- past the first four numbers of a run
past_four : (t r p y : Float) (run : List Float) (n m : ℕ) → n ≡ 4 + m
    → get_or (t ∷ r ∷ p ∷ y ∷ run) n nan ≡ get_or run m nan
past_four t r p y run n m e = let e' : n ≡ suc (suc (suc (suc m))) = omega arith in rw e'

-- the row at a place is the four numbers that stand there
pub row_at_lem : (run : List Float) (i : ℕ) → 4 * i + 3 < length run
    → row_at run i ≡ get_or run (4 * i) nan ∷ get_or run (4 * i + 1) nan ∷ get_or run (4 * i + 2) nan
    ∷ get_or run (4 * i + 3) nan ∷ []
unfolding row_at rows_of
row_at_lem (t ∷ r ∷ p ∷ y ∷ run) zero h = refl
row_at_lem (t ∷ r ∷ p ∷ y ∷ run) (suc i) h =
    rw (
      past_four t r p y run (4 * suc i) (4 * i) (omega arith),
      past_four t r p y run (4 * suc i + 1) (4 * i + 1) (omega arith),
      past_four t r p y run (4 * suc i + 2) (4 * i + 2) (omega arith),
      past_four t r p y run (4 * suc i + 3) (4 * i + 3) (omega arith),
    )
    (row_at_lem run i (omega arith))
row_at_lem (t ∷ r ∷ p ∷ []) i h = let no : ⊥ = omega arith in absurd no
row_at_lem (t ∷ r ∷ []) i h = let no : ⊥ = omega arith in absurd no
row_at_lem (t ∷ []) i h = let no : ⊥ = omega arith in absurd no
row_at_lem [] i h = let no : ⊥ = omega arith in absurd no

-- past the last whole row there is none
pub row_past : (run : List Float) (i : ℕ) → length run < 4 * i + 4 → row_at run i ≡ no_row
unfolding row_at rows_of
row_past (t ∷ r ∷ p ∷ y ∷ run) zero h = let no : ⊥ = omega arith in absurd no
row_past (t ∷ r ∷ p ∷ y ∷ run) (suc i) h = row_past run i (omega arith)
row_past (t ∷ r ∷ p ∷ []) i h = refl
row_past (t ∷ r ∷ []) i h = refl
row_past (t ∷ []) i h = refl
row_past [] i h = refl

-- a run of four for each of n rotors holds n rows
pub rows_count : (n : ℕ) (run : List Float) → length run ≡ 4 * n → length (rows_of run) ≡ n
unfolding rows_of
rows_count zero [] h = refl
rows_count (suc n) (t ∷ r ∷ p ∷ y ∷ run) h = ap suc (rows_count n run (omega arith))
rows_count (suc n) (t ∷ r ∷ p ∷ []) h = let no : ⊥ = omega arith in absurd no
rows_count (suc n) (t ∷ r ∷ []) h = let no : ⊥ = omega arith in absurd no
rows_count (suc n) (t ∷ []) h = let no : ⊥ = omega arith in absurd no
rows_count (suc n) [] h = let no : ⊥ = omega arith in absurd no
rows_count zero (t ∷ run) h = let no : ⊥ = omega arith in absurd no

-- the rows of a run are its chunks of four
pub chunks_rows : (n : ℕ) (run : List Float) → length run / 4 ≡ n → first_chunks 4 n run ≡ rows_of run
unfolding rows_of
chunks_rows zero (t ∷ r ∷ p ∷ y ∷ run) h = let no : ⊥ = omega arith in absurd no
chunks_rows (suc n) (t ∷ r ∷ p ∷ y ∷ run) h =
    ap (λ (rows : List Row). (t ∷ r ∷ p ∷ y ∷ []) ∷ rows) (chunks_rows n run (omega arith))
chunks_rows zero (t ∷ r ∷ p ∷ []) h = refl
chunks_rows zero (t ∷ r ∷ []) h = refl
chunks_rows zero (t ∷ []) h = refl
chunks_rows zero [] h = refl
chunks_rows (suc n) (t ∷ r ∷ p ∷ []) h = let no : ⊥ = omega arith in absurd no
chunks_rows (suc n) (t ∷ r ∷ []) h = let no : ⊥ = omega arith in absurd no
chunks_rows (suc n) (t ∷ []) h = let no : ⊥ = omega arith in absurd no
chunks_rows (suc n) [] h = let no : ⊥ = omega arith in absurd no

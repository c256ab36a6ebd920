-- The products of one column of the rows with the motors, added up from a place on: one step takes the row and the
-- motor that stand there, and past the last row or the last motor nothing is left to add. Assumes nothing.
use mathlib.Core.Path.{◌≡◌, refl}
use mathlib.Core.List.{List, [], ◌∷◌}
use Prim.Native.Nat.{ℕ, zero, suc, ◌+◌, ◌≤◌, ◌<◌, min}
use native.Mathlib.Numerals.{add-one}
use native.Mathlib.Omega.{arith}
use lib.ListN.{length, get_or, drop}
use lib.Seq.{drop-cons}
use lib.Ieee.{Float, nan}
use Rattle.binary32.specs.Arithmetic.{◌+f◌, ◌*f◌}
use Rattle.rules.specs.Rows.{Row, no_row}
use Rattle.rules.specs.Torque.{summed}

module _ (column : Row → Float) (s : Float) (rows : List Row) (ms : List Float) (i : ℕ) where
  pub summed_next : i < length rows → i < length ms
      → summed column (s +f column (get_or rows i no_row) *f get_or ms i nan) (drop (i + 1) rows) (drop (i + 1) ms)
      ≡ summed column s (drop i rows) (drop i ms)
  unfolding summed
  summed_next p q = rw (add-one, drop-cons rows i no_row p, drop-cons ms i nan q)

-- of no motors nothing is added
summed_none : (column : Row → Float) (s : Float) (rows : List Row) → summed column s rows [] ≡ s
unfolding summed
summed_none column s [] = refl
summed_none column s (row ∷ rows) = refl

pub summed_over : (column : Row → Float) (s : Float) (rows : List Row) (ms : List Float) (i : ℕ)
    → min (length rows) (length ms) ≤ i → summed column s (drop i rows) (drop i ms) ≡ s
unfolding summed
summed_over column s [] ms zero h = refl
summed_over column s [] ms (suc i) h = refl
summed_over column s (row ∷ rows) [] zero h = refl
summed_over column s (row ∷ rows) [] (suc i) h = summed_none column s (drop i rows)
summed_over column s (row ∷ rows) (m ∷ ms) zero h = let no : ⊥ = omega arith in absurd no
summed_over column s (row ∷ rows) (m ∷ ms) (suc i) h = summed_over column s rows ms i (omega arith)

-- Each public contract determines its answer, and that of `mix` the lent outputs too: two results that satisfy it are
-- one, by bits. A contract of this crate either says what the answer equals, or is `Allocated` or `RowsMixed`, which do
-- in `is`, `number` and `output`. Assumes nothing.
use mathlib.Core.Path.{◌≡◌, refl, ap, sym, ◌∙◌}
use mathlib.Core.List.{List, [], ◌∷◌}
use Prim.Native.Nat.{ℕ}
use native.Mathlib.Omega.{arith}
use lib.Ieee.{Float}
use Rattle.number.specs.Treat.{unit_clamp}
use Rattle.rules.specs.Rows.{Row, run_of, hex_rows, octo_rows}
use Rattle.rules.specs.Multi.{rows_refused}
use Rattle.general.proofs.Determined.{Determined, equal_determined}
use Rattle.multi.specs.declared.Wrench.{Wrench}
use Rattle.std.specs.Prelude.{Bool, Result, Ok, Err, is_err, IfOk}
use Rattle.multi.specs.declared.BadRows.{BadRows}
use Rattle.multi.specs.Wrench.{MixAnswer, mix_number, Allocated, RowsMixed}

allocated_determined : {rows : List Row} {w : Wrench} → Determined (Allocated rows w)
allocated_determined r q h k = equal_determined r q h.is k.is

-- the paper's number tells the cases of the answer apart
number_tells : (a b : MixAnswer) → mix_number a ≡ mix_number b → a ≡ b
number_tells (Ok a) (Ok b) e = refl
number_tells (Err a) (Err b) e = refl
number_tells (Ok a) (Err b) e = let no : ⊥ = omega arith in absurd no
number_tells (Err a) (Ok b) e = let no : ⊥ = omega arith in absurd no

-- what the rows that were lent are, where they were: R is what lends them
abbrev pub lent_rows : {R : Type 0} → (R → List Row) → Result R BadRows → List (List Row)
lent_rows now (Ok r) = now r ∷ []
lent_rows now (Err bad) = []

-- ---- the public functions

module _ (x : Float) (run before : List Float) (w : Wrench) where
  pub clamp01_determined : Determined (λ r. r ≡ unit_clamp x)
  clamp01_determined = equal_determined

  pub refused_determined : (floats outputs : ℕ) → Determined (λ r. r ≡ rows_refused floats outputs)
  refused_determined floats outputs = equal_determined

  -- whether it is refused, and the rows
  pub rows_for_determined : {R : Type 0} (now : R → List Row) (refused : Bool) (rows : List Row)
      (a b : Result R BadRows) → is_err a ≡ refused → IfOk a (λ r. now r ≡ rows) → is_err b ≡ refused
      → IfOk b (λ r. now r ≡ rows) → lent_rows now a ≡ lent_rows now b
  rows_for_determined now refused rows (Ok r) (Ok q) e h k i = ap (λ (l : List Row). l ∷ []) (h ∙ sym i)
  rows_for_determined now refused rows (Err r) (Err q) e h k i = refl
  rows_for_determined now refused rows (Ok r) (Err q) e h k i = cc
  rows_for_determined now refused rows (Err r) (Ok q) e h k i = cc

  -- the answer, and what the outputs are afterwards
  pub mix_determined : (a b : MixAnswer) (after other : List Float) → RowsMixed run w before a after
      → RowsMixed run w before b other → (a ≡ b) × (after ≡ other)
  mix_determined a b after other h k = (
    number_tells a b (equal_determined _ _ h.number k.number),
    equal_determined after other h.output k.output,
  )

  pub hex_x_determined : Determined (λ r. r ≡ run_of hex_rows)
  hex_x_determined = equal_determined

  pub octo_coax_determined : Determined (λ r. r ≡ run_of octo_rows)
  octo_coax_determined = equal_determined

  pub mix_hex_x_determined : Determined (Allocated hex_rows w)
  mix_hex_x_determined = allocated_determined

  pub mix_octo_coax_determined : Determined (Allocated octo_rows w)
  mix_octo_coax_determined = allocated_determined

-- Rows and runs of them. The runs of document 01's frames hold its rows, each by one computed test; and a run that is
-- not refused has four numbers for each output, and there are at most 64 of these.
-- Assumes nothing.
use mathlib.Core.Path.{◌≡◌, refl}
use mathlib.Core.Bool.{false, not}
use Prim.Native.Nat.{ℕ, ◌*◌, ◌≤◌}
use borrow.Author.Tests.{eqb-true, ltb-false, not-false}
use lib.Dec.{ltb, eqb}
use Rattle.general.proofs.Neither.{neither}
use Rattle.rules.specs.Rows.{rows_of, run_of, quad_rows, quad_x_rows, hex_rows, octo_rows}
use Rattle.rules.specs.Multi.{max_outputs, rows_refused}

-- ---- the frames of document 01

pub quad_rows_lem : rows_of (run_of quad_rows) ≡ quad_rows
unfolding rows_of run_of quad_rows
quad_rows_lem = refl

pub quad_x_rows_lem : rows_of (run_of quad_x_rows) ≡ quad_x_rows
unfolding rows_of run_of quad_rows quad_x_rows
quad_x_rows_lem = refl

pub hex_rows_lem : rows_of (run_of hex_rows) ≡ hex_rows
unfolding rows_of run_of hex_rows
hex_rows_lem = refl

pub octo_rows_lem : rows_of (run_of octo_rows) ≡ octo_rows
unfolding rows_of run_of octo_rows
octo_rows_lem = refl

-- ---- refusal 10

-- neither of its two tests holds of a run that is not refused
tests : (floats outputs : ℕ) → rows_refused floats outputs ≡ false
    → (ltb max_outputs outputs ≡ false) × (not (eqb floats (4 * outputs)) ≡ false)
unfolding rows_refused
tests floats outputs = neither (ltb max_outputs outputs) (not (eqb floats (4 * outputs)))

pub four_each : (floats outputs : ℕ) → rows_refused floats outputs ≡ false → floats ≡ 4 * outputs
four_each floats outputs h =
    eqb-true floats (4 * outputs) (not-false (eqb floats (4 * outputs)) (tests floats outputs h).1)

pub within_most : (floats outputs : ℕ) → rows_refused floats outputs ≡ false → outputs ≤ max_outputs
within_most floats outputs h = ltb-false max_outputs outputs (tests floats outputs h).0

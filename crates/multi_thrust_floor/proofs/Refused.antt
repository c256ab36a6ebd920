-- "Refusals: 10, unchanged" (document 02, K6): where the number is another than 0, the outputs are as they were.
-- Assumes nothing.
use mathlib.Core.Path.{◌≡◌}
use mathlib.Core.Bool.{Bool, true, false, cond}
use mathlib.Core.List.{List}
use lib.ListN.{length}
use lib.Ieee.{Float}
use Rattle.rules.specs.Rows.{rows_of}
use Rattle.rules.specs.Multi.{rows_refused}
use Rattle.refusals.specs.Numbers.{accepted, bad_rows}
use Rattle.multi.specs.declared.Wrench.{Wrench}
use Rattle.multi_thrust_floor.specs.Floored.{FloorAnswer, floored_motors, floor_number, RowsFloored}

pub refused_unchanged : (run : List Float) (w : Wrench) (floor : Float) (before : List Float) (answer : FloorAnswer)
    (after : List Float)
    → RowsFloored run w floor before answer after
    → (floor_number answer ≡ accepted → ⊥)
    → after ≡ before
refused_unchanged run w floor before answer after h refused =
    go (rows_refused (length run) (length before)) h.number h.output
  where
    go : (t : Bool) → floor_number answer ≡ cond t bad_rows accepted
        → after ≡ cond t before (floored_motors (rows_of run) w floor) → after ≡ before
    go true number output = output
    go false number output = absurd (refused number)

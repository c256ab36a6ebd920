-- `frame::wrench_of` meets its contract. The loop's invariant: what is left to add to each of the four sums, from what
-- is held, gives the whole sum. Assumes nothing.
use mathlib.Core.Path.{◌≡◌}
use mathlib.Core.List.{List, map}
use Prim.Native.Nat.{ℕ}
use lib.ListN.{length, drop}
use lib.Ieee.{Float}
use Rattle.binary32.specs.Arithmetic.{0f}
use Rattle.number.specs.Treat.{treated}
use Rattle.rules.specs.Rows.{Row, thrust_of, roll_of, pitch_of, yaw_of}
use Rattle.rules.specs.Torque.{summed}
use Rattle.frame.proofs.wrench_of.Given as goal

-- what is left to add to a column's sum, from s, gives the whole sum
abbrev pub Left : (Row → Float) → Float → List Row → List Float → ℕ → Type 0
Left column s rows motors i =
    summed column s (drop i rows) (drop i (map treated motors)) ≡ summed column 0f rows (map treated motors)

abbrev pub invariant-loop-row : goal.invariant-loop-row
invariant-loop-row l =
    Left thrust_of l.thrust l.rows l.motors (length l.yielded) × Left roll_of l.roll l.rows l.motors (length l.yielded)
    × Left pitch_of l.pitch l.rows l.motors (length l.yielded) × Left yaw_of l.yaw l.rows l.motors (length l.yielded)

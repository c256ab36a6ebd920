-- `lowering::lower_and_limit` meets its contract. The loop's invariant: the motors up to the one that is lent are those
-- of the rule, and the others are as they were. Assumes nothing.
use mathlib.Core.Path.{◌≡◌}
use mathlib.Core.List.{List, map}
use lib.Ieee.{Float}
use Rattle.binary32.specs.Arithmetic.{0f}
use Rattle.number.specs.Treat.{floor_clamp}
use Rattle.rules.specs.Extremes.{largest}
use Rattle.rules.specs.Plain.{lowered_by}
use Rattle.general.proofs.Filled.{filled}
use Rattle.lowering.proofs.lower_and_limit.Given as goal

-- ---- the rule, motor by motor

abbrev pub lower_one : List Float → Float → Float
lower_one xs x = floor_clamp (lowered_by (largest xs) x) 0f

abbrev pub invariant-loop-m : goal.invariant-loop-m
invariant-loop-m l = l.m ≡ filled l.initial.m (map (lower_one l.initial.m) l.initial.m) l.m-index

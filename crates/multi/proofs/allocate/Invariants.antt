-- `multi::allocate` meets its contract. The loop's invariant: the outputs up to i are filled with the rule's motors,
-- and the others are as they were. Assumes nothing.
use mathlib.Core.Path.{◌≡◌}
use mathlib.Core.List.{map}
use lib.Ieee.{Float}
use Rattle.number.specs.Treat.{unit_clamp}
use Rattle.rules.specs.Rows.{Row}
use Rattle.rules.specs.Plain.{raw_sum}
use Rattle.general.proofs.Filled.{filled}
use Rattle.multi.specs.declared.Wrench.{Wrench}
use Rattle.multi.proofs.allocate.Given as goal

-- one motor of the rule
abbrev pub motor_of : Wrench → Row → Float
motor_of w row = unit_clamp (raw_sum w.thrust w.roll w.pitch w.yaw row)

abbrev pub invariant-loop-i : goal.invariant-loop-i
invariant-loop-i l = l.out ≡ filled l.initial.out (map (motor_of l.w) l.rows) l.i

-- `multi_thrust_floor::give` meets its contract. The loop's invariant: the numbers up to the index are filled with the
-- rule's motors, and the others are as they were. Assumes nothing.
use mathlib.Core.Path.{◌≡◌}
use mathlib.Core.List.{map}
use Rattle.rules.specs.ThrustFloor.{scaled_motor}
use Rattle.general.proofs.Filled.{filled}
use Rattle.multi_thrust_floor.proofs.give.Given as goal

abbrev pub invariant-loop-x : goal.invariant-loop-x
invariant-loop-x l = l.d ≡ filled l.initial.d (map (scaled_motor l.floor l.base l.s) l.initial.d) l.x-index

-- `multi_thrust_floor::ask` meets its contract. The loop's invariant: the outputs up to i are filled with the rule's
-- deltas, and the others are as they were. Assumes nothing.
use mathlib.Core.Path.{◌≡◌}
use mathlib.Core.List.{map}
use Rattle.rules.specs.Command.{delta}
use Rattle.general.proofs.Filled.{filled}
use Rattle.multi_thrust_floor.proofs.ask.Given as goal

abbrev pub invariant-loop-i : goal.invariant-loop-i
invariant-loop-i l = l.out ≡ filled l.initial.out (map (delta l.r l.p l.y) l.rows) l.i

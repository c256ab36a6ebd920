-- `multi_thrust_floor::give` meets its contract. The loop's invariant: the numbers up to the index are filled with the
-- rule's motors, and the others are as they were. Assumes nothing.
use mathlib.Core.Path.{◌∙◌}
use native.Mathlib.Omega.{arith}
use lib.Ieee.{nan}
use Rattle.general.proofs.Filled.{fill_in_place, filled_in_place}
use Rattle.multi_thrust_floor.proofs.give.Goals as goal

pub loop-x-preserved : goal.loop-x-preserved
loop-x-preserved c =
    fill_in_place _ c.args.d.now c.loop-x.d c.loop-x.x-index nan (omega arith) c.loop-x.invariant
    c.scaled_motor.ensures

pub returns : goal.returns
returns c = c.loop-x.invariant ∙ filled_in_place _ c.args.d.now c.loop-x.x-index (omega arith)

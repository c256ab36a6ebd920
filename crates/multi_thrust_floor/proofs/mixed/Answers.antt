-- `multi_thrust_floor::mixed` meets its contract: the two steps find the motors and the scale. Assumes nothing.
use Rattle.multi_thrust_floor.proofs.Answers.{floored_by_steps}
use Rattle.multi_thrust_floor.proofs.mixed.Goals as goal

pub returns : goal.returns
returns g c =
    let good = c.well_formed in
    floored_by_steps good.1.0.1.1.0.1 good.1.1.0.1 c.ask.ensures c.grant-scale.ensures

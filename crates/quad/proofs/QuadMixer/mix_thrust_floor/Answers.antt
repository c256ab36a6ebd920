-- `QuadMixer::mix_thrust_floor` meets its contract: the state is the rule's, and so are the promises. Assumes nothing.
use Rattle.rules.specs.Rows.{quad_rows}
use Rattle.rules.proofs.Keeps.{thrust_floor_keeps}
use Rattle.quad.proofs.QuadMixed.{mixed}
use Rattle.quad.proofs.QuadMixer.mix_thrust_floor.Goals as goal

pub returns : goal.returns
returns c =
    let args = c.args in
    mixed (simp (c.state.ensures, c.motors-m.ensures))
    (thrust_floor_keeps quad_rows args.torque_body args.thrust args.floor (rw c.well_formed.1.1.0.1 tt)
    (rw c.well_formed.1.1.1.0.1 tt))

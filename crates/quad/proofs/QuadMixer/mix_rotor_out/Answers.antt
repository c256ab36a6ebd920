-- `QuadMixer::mix_rotor_out` meets its contract: the state is the rule's, and so are the promises. Assumes nothing.
use Rattle.rules.proofs.Keeps.{rotor_out_keeps}
use Rattle.quad.proofs.QuadMixed.{mixed}
use Rattle.quad.proofs.QuadMixer.mix_rotor_out.Goals as goal

pub returns : goal.returns
returns c =
    let args = c.args in
    mixed (simp (c.state.ensures, c.motors-motors.ensures))
    (rotor_out_keeps args.failed args.torque_body args.thrust args.floor
    (rw c.well_formed.1.1.1.1.0.1 tt))

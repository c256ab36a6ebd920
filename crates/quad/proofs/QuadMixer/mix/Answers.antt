-- `QuadMixer::mix` meets its contract: the state is the rule's, and so are the promises. Assumes nothing.
use Rattle.general.proofs.Held.{array_held}
use Rattle.rules.proofs.Keeps.{plain_keeps}
use Rattle.quad.proofs.QuadMixed.{mixed}
use Rattle.quad.proofs.QuadMixer.mix.Goals as goal

pub returns : goal.returns
returns c =
    let args = c.args in
    mixed (simp (c.state.ensures, c.motors-m.ensures))
    (plain_keeps args.torque_body args.thrust (array_held 3 args.torque_body _ c.well_formed.1.0)
    (rw c.well_formed.1.1.0.1 tt))

-- `rotors::command::delta` meets its contract: the products are those of `delta`, treated. Assumes nothing.
use Rattle.rules.specs.Command.{delta}
use Rattle.rotors.proofs.command.delta.Goals as goal

pub returns : goal.returns
unfolding delta
returns c = simp (c.sanitise.ensures, c.asked.ensures)

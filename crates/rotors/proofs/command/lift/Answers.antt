-- `rotors::command::lift` meets its contract: the choice is that of `lifted`. Assumes nothing.
use Rattle.rules.specs.Command.{lifted}
use Rattle.rotors.proofs.command.lift.Goals as goal

pub returns : goal.returns
unfolding lifted
returns c = simp c.pick.ensures

-- `rotors::command::raw_sum` meets its contract by computing: the sum is that of `raw_sum`. Assumes nothing.
use mathlib.Core.Path.{refl}
use Rattle.rules.specs.Plain.{raw_sum}
use Rattle.rotors.proofs.command.raw_sum.Goals as goal

pub returns : goal.returns
unfolding raw_sum
returns c = refl

-- `LostRotor::placed` meets its contract by computing: three numbers are put one after another. Assumes nothing.
use mathlib.Core.Path.{refl}
use Rattle.rules.specs.RotorOut.{placed}
use Rattle.rotor_out.proofs.LostRotor.placed.Goals as goal

pub returns : goal.returns
unfolding placed
returns g c = refl

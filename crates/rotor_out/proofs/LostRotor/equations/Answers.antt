-- `LostRotor::equations` meets its contract by computing: the table's rows are the quad's. Assumes nothing.
use mathlib.Core.Path.{refl}
use Rattle.rules.specs.Rows.{quad_rows}
use Rattle.rules.specs.RotorOut.{equations}
use Rattle.rotor_out.proofs.LostRotor.equations.Goals as goal

pub returns : goal.returns
unfolding quad_rows equations
returns g c = refl

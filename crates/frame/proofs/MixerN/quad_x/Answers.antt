-- `MixerN::quad_x` meets its contract by computing: the table holds the quad's rows and four rows of +0, number by
-- number. Assumes nothing.
use mathlib.Core.Path.{refl}
use Rattle.rules.specs.Rows.{run_of, quad_rows, quad_x_rows}
use Rattle.frame.proofs.MixerN.quad_x.Goals as goal

pub returns : goal.returns
unfolding run_of quad_rows quad_x_rows
returns c = refl

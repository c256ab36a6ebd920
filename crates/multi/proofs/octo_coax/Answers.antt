-- `multi::octo_coax` meets its contract by computing: the table holds document 01's eight rows, number by number.
-- Assumes nothing.
use mathlib.Core.Path.{refl}
use Rattle.rules.specs.Rows.{run_of, octo_rows}
use Rattle.multi.proofs.octo_coax.Goals as goal

pub returns : goal.returns
unfolding run_of octo_rows
returns c = refl

-- `multi::hex_x` meets its contract by computing: the table holds document 01's six rows, number by number. Assumes
-- nothing.
use mathlib.Core.Path.{refl}
use Rattle.rules.specs.Rows.{run_of, hex_rows}
use Rattle.multi.proofs.hex_x.Goals as goal

pub returns : goal.returns
unfolding run_of hex_rows
returns c = refl

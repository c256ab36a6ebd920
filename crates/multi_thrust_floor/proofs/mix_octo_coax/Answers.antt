-- `multi_thrust_floor::mix_octo_coax` meets its contract: the rows of the table's run are document 01's eight. Assumes
-- nothing.
use native.Mathlib.Omega.{arith}
use Rattle.rules.specs.Rows.{octo_rows}
use Rattle.rules.proofs.Rows.{octo_rows_lem}
use Rattle.multi_thrust_floor.proofs.mix_octo_coax.Goals as goal

pub mixed-requires : goal.mixed-requires
unfolding octo_rows
mixed-requires c = (
  omega arith,
  (rw (c.rows_of.ensures.rows, c.octo_coax.ensures, octo_rows_lem), omega arith),
)

pub returns : goal.returns
returns c = rw (c.rows_of.ensures.rows, c.octo_coax.ensures, octo_rows_lem) at c.mixed.ensures

-- `multi_thrust_floor::mix_hex_x` meets its contract: the rows of the table's run are document 01's six. Assumes
-- nothing.
use native.Mathlib.Omega.{arith}
use Rattle.rules.specs.Rows.{hex_rows}
use Rattle.rules.proofs.Rows.{hex_rows_lem}
use Rattle.multi_thrust_floor.proofs.mix_hex_x.Goals as goal

pub mixed-requires : goal.mixed-requires
unfolding hex_rows
mixed-requires c = (
  omega arith,
  (rw (c.rows_of.ensures.rows, c.hex_x.ensures, hex_rows_lem), omega arith),
)

pub returns : goal.returns
returns c = rw (c.rows_of.ensures.rows, c.hex_x.ensures, hex_rows_lem) at c.mixed.ensures

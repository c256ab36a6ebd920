-- `torque::torque_of` meets its contract: the sums of the three torque columns. Assumes nothing.
use Rattle.rules.specs.Torque.{torque_of}
use Rattle.torque.proofs.torque_of.Goals as goal

pub returns : goal.returns
unfolding torque_of
returns c = simp (c.column_sum-3.ensures, c.column_sum-2.ensures, c.column_sum.ensures)

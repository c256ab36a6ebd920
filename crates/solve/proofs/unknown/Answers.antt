-- `solve::unknown` meets its contract: what `det3` ensures, of the matrix that `with_column` ensures. Assumes nothing.
use Rattle.solve.specs.Solve.{cramer}
use Rattle.solve.proofs.unknown.Goals as goal

pub returns : goal.returns
unfolding cramer
returns c = simp (c.det3.ensures, c.with_column.ensures)

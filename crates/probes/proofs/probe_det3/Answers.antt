-- `probes::probe_det3` meets its contract: the determinant of the matrix that was passed. Assumes nothing.
use Rattle.probes.proofs.probe_det3.Goals as goal

pub returns : goal.returns
returns c = simp (c.det3.ensures, c.matrix.ensures)

-- `solve::is_singular` meets its contract: a determinant that is not finite is told first, and only of a finite one is
-- the size asked. Assumes nothing.
use Rattle.solve.specs.Solve.{singular}
use Rattle.solve.proofs.is_singular.Goals as goal

pub returns-then-not-is_finite : goal.returns-then-not-is_finite
unfolding singular
returns-then-not-is_finite c = simp (← c.is_finite.ensures, c.if-not-is_finite.true)

pub returns-else-not-is_finite : goal.returns-else-not-is_finite
unfolding singular
returns-else-not-is_finite c = simp (← c.is_finite.ensures, c.if-not-is_finite.false, c.is_small.ensures.size)

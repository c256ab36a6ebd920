-- `multi::refused` meets its contract: the two tests are those of `rows_refused`. Assumes nothing.
use borrow.Author.Tests.{lt-ltb, le-ltb}
use Rattle.rules.specs.Multi.{rows_refused}
use Rattle.multi.proofs.refused.Goals as goal

pub returns-then-outputs-gt-MAX_OUTPUTS : goal.returns-then-outputs-gt-MAX_OUTPUTS
unfolding rows_refused
returns-then-outputs-gt-MAX_OUTPUTS c = rw (lt-ltb _ _ c.if-outputs-gt-MAX_OUTPUTS.true)

pub returns-else-outputs-gt-MAX_OUTPUTS : goal.returns-else-outputs-gt-MAX_OUTPUTS
unfolding rows_refused
returns-else-outputs-gt-MAX_OUTPUTS c = rw (le-ltb _ _ c.if-outputs-gt-MAX_OUTPUTS.false)

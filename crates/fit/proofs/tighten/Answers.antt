-- `fit::tighten` meets its contract: the motor's limit where it is smaller, which a limit of 1 never is. Assumes
-- nothing.
use Rattle.fit.proofs.Step.{limited_step}
use Rattle.fit.proofs.tighten.Goals as goal

pub returns : goal.returns
returns c =
    simp (c.pick.ensures, c.limit_of-limit.ensures)
    (limited_step c.args.floor c.args.s c.args.b c.args.d c.requires)

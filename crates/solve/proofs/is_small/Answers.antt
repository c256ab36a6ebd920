-- `solve::is_small` meets its contract: the library's `abs` makes the sign positive and changes nothing else, and what
-- is under a limit in size lies between its two signs. Assumes nothing.
use mathlib.Core.Path.{◌≡◌, ap, ◌∙◌}
use lib.Ieee.{Float}
use Rattle.std.specs.Float.Ieee.{lt}
use Rattle.binary32.specs.Arithmetic.{small, absolute}
use Rattle.binary32.proofs.Absolute.{unsigned_is, absolute_below_small}
use Rattle.solve.proofs.is_small.Goals as goal

pub returns-clause-size : goal.returns-clause-size
returns-clause-size c = ap (λ (size : Float). lt size small) (c.abs.ensures.value ∙ unsigned_is c.args.x)

pub returns-clause-between : goal.returns-clause-between
returns-clause-between c =
    ap (λ (size : Float). lt size small) (c.abs.ensures.value ∙ unsigned_is c.args.x) ∙ absolute_below_small c.args.x

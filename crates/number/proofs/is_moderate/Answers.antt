-- `number::is_moderate` meets its contract: of a finite float the exponent's field tells, and what is not finite is not
-- moderate. Assumes nothing.
use mathlib.Core.Path.{sym, ◌∙◌}
use Rattle.binary32.specs.Encoding.{exponent_width, trailing_width, exponent_field}
use Rattle.binary32.proofs.Tests.{finite_not_nan}
use Rattle.number.specs.Moderate.{moderate}
use Rattle.number.proofs.is_moderate.Goals as goal

pub float_to_bits-result : goal.float_to_bits-result
float_to_bits-result c =
    rw (finite_not_nan c.args.x (sym c.is_finite.ensures ∙ c.if-is_finite.true)) tt

pub returns-then-is_finite : goal.returns-then-is_finite
unfolding moderate exponent_field exponent_width trailing_width
returns-then-is_finite c = rw (sym c.is_finite.ensures ∙ c.if-is_finite.true)

pub returns : goal.returns
unfolding moderate
returns c = rw (sym c.is_finite.ensures ∙ c.if-is_finite.false)

-- `number::is_finite` meets its contract: a NaN is not finite, and of any other float the exponent's field tells.
-- Assumes nothing.
use mathlib.Core.Path.{sym, ◌∙◌}
use lib.Ieee.{binary32}
use Rattle.binary32.specs.Encoding.{exponent_width, trailing_width, exponent_field, all_ones}
use Rattle.binary32.proofs.EncodingMet.{written_finite}
use Rattle.binary32.proofs.Tests.{nan_not_finite}
use Rattle.number.proofs.is_finite.Goals as goal

pub returns-then-is_nan : goal.returns-then-is_nan
returns-then-is_nan c =
    sym (nan_not_finite c.args.x (sym c.is_nan.ensures.value ∙ c.if-is_nan.true))

pub float_to_bits-result : goal.float_to_bits-result
float_to_bits-result c = rw (sym c.is_nan.ensures.value ∙ c.if-is_nan.false) tt

pub returns : goal.returns
unfolding exponent_field exponent_width trailing_width all_ones
returns c = sym (written_finite binary32 c.args.x (rw c.well_formed.0.1 tt))

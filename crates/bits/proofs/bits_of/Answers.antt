-- `bits::bits_of` meets its contract. A NaN's pattern is written out; any other float has a pattern of its own. Assumes
-- nothing.
use mathlib.Core.Path.{sym, ◌∙◌}
use lib.Ieee.{to_bits}
use Rattle.bits.proofs.Nan.{nan_only}
use Rattle.bits.proofs.bits_of.Goals as goal

pub returns-then-is_nan : goal.returns-then-is_nan
unfolding to_bits
returns-then-is_nan c = rw (nan_only c.args.x (sym c.is_nan.ensures.value ∙ c.if-is_nan.true))

pub float_to_bits-result : goal.float_to_bits-result
float_to_bits-result c = rw (sym c.is_nan.ensures.value ∙ c.if-is_nan.false) tt

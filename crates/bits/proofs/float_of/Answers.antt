-- `bits::float_of` meets its contract. A pattern over +infinity's is read as the NaN, which 0.0 / 0.0 is too; any
-- other is no NaN's. Assumes nothing.
use mathlib.Core.Path.{sym, ◌∙◌}
use native.Mathlib.Omega.{arith}
use Rattle.bits.proofs.Nan.{zero_by_zero, nan_from_bits, no_nan_from_bits}
use Rattle.bits.proofs.float_of.Goals as goal

pub returns-then-bits-gt-INFINITY : goal.returns-then-bits-gt-INFINITY
returns-then-bits-gt-INFINITY c = zero_by_zero ∙ sym (nan_from_bits c.args.bits (omega arith))

pub float_from_bits-result : goal.float_from_bits-result
float_from_bits-result c = rw (no_nan_from_bits c.args.bits (omega arith)) tt

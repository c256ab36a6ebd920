-- Moderate numbers are at most 2 ^ 274 units in size, and the sum of three numbers that are no larger is finite: it is
-- at most 2 ^ 276, and the overflow bound is 2 ^ 277. Assumes nothing.
use Prim.Native.Nat.{◌<◌}
use native.Mathlib.Omega.{arith}
use lib.Dec.{T, ltb, lit<, ltb→lt}
use lib.Ieee.{Float, binary32, fits, to_bits}
use lib.Ieee.Fits.{and_l, and_r}
use lib.Ieee.Scale.{finite}
use Rattle.binary32.specs.Arithmetic.{◌+f◌}
use Rattle.binary32.specs.Encoding.{trailing_width, exponent_field, all_ones, exponent_width}
use Rattle.binary32.proofs.Magnitude.{Finite}
use Rattle.binary32.proofs.Sizes.{Within, wider, sum_within}
use Rattle.binary32.proofs.EncodingMet.{encoding, exponent_size}
use Rattle.number.specs.Moderate.{moderate}

pub moderate_within : (x : Float) → T (fits binary32 x) → T (moderate x) → Within binary32 274 x
unfolding moderate trailing_width all_ones exponent_width
moderate_within x held h =
    let field = exponent_field binary32 (to_bits binary32 x) in
    let under : field < 252 = ltb→lt field 252 (and_r (finite x) (ltb field 252) h) in
    record {
      finite = record { fits = held; finite = and_l (finite x) (ltb field 252) h };
      size = exponent_size (to_bits binary32 x) (encoding binary32 x held) 251 (omega arith) (lit< tt);
    }

pub three_finite : {x y z : Float} → Within binary32 274 x → Within binary32 274 y → Within binary32 274 z
    → Finite binary32 (x +f y +f z)
three_finite hx hy hz = (sum_within 275 (sum_within 274 hx hy (lit< tt)) (wider hz) (lit< tt)).finite

-- The numbers that the Rust writes as decimals are the f32s that the definitions have for them: each is what the
-- standard has delivered for its decimal (IEEE 754-2019, 5.12.2), and a literal with a minus before it is the negation
-- of one. (0.0 is +0, the pattern of all zeros.) Assumes nothing.
use mathlib.Core.Path.{◌≡◌, refl}
use lib.IntN.{pos}
use lib.Ieee.{binary32, neg, round, of_bits}
use Rattle.binary32.specs.Arithmetic.{1f, small}
use Rattle.binary32.specs.Rounding.{rounding}
use Rattle.binary32.specs.Nearest.{Decimal}
use Rattle.binary32.proofs.Decimals.{decimal, small_decimal}
use Rattle.rules.specs.Rows.{1/2, -1f, -1/2, 866/1000, -866/1000, 707/1000, -707/1000}
use Rattle.rules.specs.RotorOut.{3f, 8f}
use Rattle.rules.proofs.Decimals.{row_decimals}

pub record Literals : Type 0 where
  pub one : Decimal binary32 (pos 10) 1 1f
  pub three : Decimal binary32 (pos 30) 1 3f
  pub eight : Decimal binary32 (pos 80) 1 8f
  -- 1.0e-6, 1e-6
  pub millionth : Decimal binary32 (pos 1) 6 small
  -- 0.500, 0.866 and 0.707
  pub half : Decimal binary32 (pos 5) 1 1/2
  pub hex : Decimal binary32 (pos 866) 3 866/1000
  pub octo : Decimal binary32 (pos 707) 3 707/1000
  -- with a minus
  pub minus_one : neg 1f ≡ -1f
  pub minus_half : neg 1/2 ≡ -1/2
  pub minus_hex : neg 866/1000 ≡ -866/1000
  pub minus_octo : neg 707/1000 ≡ -707/1000

pub literals : Literals
unfolding rounding round neg of_bits
literals = record {
  one = decimal (pos 10) 1 refl;
  three = decimal (pos 30) 1 refl;
  eight = decimal (pos 80) 1 refl;
  millionth = small_decimal;
  half = row_decimals.half;
  hex = row_decimals.hex;
  octo = row_decimals.octo;
  minus_one = refl;
  minus_half = refl;
  minus_hex = refl;
  minus_octo = refl;
}

-- The numbers of the rows that document 01 and the code's tables write as decimals are the f32s that the standard has
-- delivered for these decimals: 0.866 and 0.707 are rounded, 0.5 is exact. Assumes nothing.
use mathlib.Core.Path.{refl}
use lib.IntN.{pos, negsuc}
use lib.Ieee.{binary32, round, of_bits}
use Rattle.binary32.specs.Rounding.{rounding}
use Rattle.binary32.specs.Nearest.{Decimal}
use Rattle.binary32.proofs.Decimals.{decimal}
use Rattle.rules.specs.Rows.{1/2, -1/2, 866/1000, -866/1000, 707/1000, -707/1000}

pub record RowDecimals : Type 0 where
  pub half : Decimal binary32 (pos 5) 1 1/2
  pub minus_half : Decimal binary32 (negsuc 4) 1 -1/2
  pub hex : Decimal binary32 (pos 866) 3 866/1000
  pub minus_hex : Decimal binary32 (negsuc 865) 3 -866/1000
  pub octo : Decimal binary32 (pos 707) 3 707/1000
  pub minus_octo : Decimal binary32 (negsuc 706) 3 -707/1000

pub row_decimals : RowDecimals
unfolding rounding round of_bits
row_decimals = record {
  half = decimal (pos 5) 1 refl;
  minus_half = decimal (negsuc 4) 1 refl;
  hex = decimal (pos 866) 3 refl;
  minus_hex = decimal (negsuc 865) 3 refl;
  octo = decimal (pos 707) 3 refl;
  minus_octo = decimal (negsuc 706) 3 refl;
}

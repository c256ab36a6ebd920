-- What the tests of `src/lib.rt` tell: a pattern that is over +infinity's without its sign is the NaN's, and no other
-- is. Assumes nothing.
use mathlib.Core.Path.{◌≡◌, refl, sym, ◌∙◌}
use mathlib.Core.Bool.{true, false}
use Prim.Native.Nat.{ℕ, ◌%◌, ◌≤◌, ◌<◌}
use borrow.Author.Tests.{lt-ltb, le-ltb}
use lib.Ieee.{Float, nan, inf, fin, binary32, is_nan, of_bits, nan_bits, div}
use lib.Ieee.Bits.{nan_bits_is, nan_bits_above}

-- 0.0 / 0.0 is a NaN
pub zero_by_zero : div binary32 (of_bits binary32 0) (of_bits binary32 0) ≡ nan
unfolding div of_bits
zero_by_zero = refl

-- `is_nan` holds of the NaN alone
pub nan_only : (x : Float) → is_nan x ≡ true → x ≡ nan
unfolding is_nan
nan_only nan t = refl
nan_only (inf s) t = cc
nan_only (fin s m e) t = cc

-- a pattern over +infinity's, its sign taken off, is read as the NaN
pub nan_from_bits : (n : ℕ) → 0x7f80_0000 < n % 0x8000_0000 → of_bits binary32 n ≡ nan
nan_from_bits n h =
    nan_only (of_bits binary32 n)
    (sym (nan_bits_is binary32 n) ∙ nan_bits_above binary32 n ∙ lt-ltb 0x7f80_0000 (n % 0x8000_0000) h)

-- and any other is no NaN's
pub no_nan_from_bits : (n : ℕ) → n % 0x8000_0000 ≤ 0x7f80_0000 → nan_bits binary32 n ≡ false
no_nan_from_bits n h = nan_bits_above binary32 n ∙ le-ltb 0x7f80_0000 (n % 0x8000_0000) h

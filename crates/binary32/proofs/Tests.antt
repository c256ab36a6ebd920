-- What a number compared with itself tells: x differs from x exactly where it is a NaN, and then it is not finite.
-- Assumes nothing.
use mathlib.Core.Path.{◌≡◌, refl}
use mathlib.Core.Bool.{Bool, true, false}
use Prim.Native.Nat.{ℕ}
use lib.Dec.{eqb, eqb_refl}
use lib.Ieee.{Float, nan, inf, fin, ne, is_nan}
use lib.Ieee.Bits.{is_true}
use lib.Ieee.Scale.{finite}

always_equal : (a : ℕ) → eqb a a ≡ true
always_equal a = is_true (eqb a a) (eqb_refl a)

pub nan_test : (x : Float) → ne x x ≡ is_nan x
unfolding ne is_nan
nan_test nan = refl
nan_test (inf true) = refl
nan_test (inf false) = refl
nan_test (fin true m e) = simp always_equal
nan_test (fin false m e) = simp always_equal

pub nan_not_finite : (x : Float) → is_nan x ≡ true → finite x ≡ false
unfolding is_nan
nan_not_finite nan h = refl
nan_not_finite (inf s) h = refl
nan_not_finite (fin s m e) h = cc

pub finite_not_nan : (x : Float) → finite x ≡ true → is_nan x ≡ false
finite_not_nan x h = go (is_nan x) refl
  where
    go : (b : Bool) → is_nan x ≡ b → b ≡ false
    go true e = let no = nan_not_finite x e in cc
    go false e = refl

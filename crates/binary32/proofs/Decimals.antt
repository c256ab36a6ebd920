-- The constant that the code writes as 1.0e-6 is the f32 that the standard has delivered for this decimal. A decimal's
-- number is found by the kit's `rounding`, which computes, and the standard's words determine it. Assumes nothing.
use mathlib.Core.Path.{◌≡◌, refl, subst}
use Prim.Native.Nat.{ℕ, zero, suc, ◌^◌, ◌<◌}
use native.Mathlib.Nat.{pow-suc, mul-pos}
use lib.Dec.{lit<}
use lib.IntN.{ℤ, pos, ◌*ℤ◌}
use lib.Ieee.{Float, Format, binary32, low, round, of_bits}
use Rattle.binary32.specs.Arithmetic.{small}
use Rattle.binary32.specs.Rounding.{rounding}
use Rattle.binary32.specs.Nearest.{RoundsTo, Decimal}
use Rattle.binary32.proofs.Delivered.{rounding_delivered}

ten_some : (k : ℕ) → 0 < 10 ^ k
ten_some zero = lit< tt
ten_some (suc k) = rw (pow-suc 10 k) (mul-pos (ten_some k) (lit< tt))

pub decimal : {f : Format} {z : Float} (n : ℤ) (k : ℕ) → rounding f (n *ℤ pos (2 ^ low f)) (10 ^ k) ≡ z
    → Decimal f n k z
decimal {f} n k is =
    subst (RoundsTo f (n *ℤ pos (2 ^ low f)) (10 ^ k)) is
    (rounding_delivered f (n *ℤ pos (2 ^ low f)) (10 ^ k) (ten_some k))

pub small_decimal : Decimal binary32 (pos 1) 6 small
unfolding rounding round of_bits
small_decimal = decimal (pos 1) 6 refl

-- What is zero and what is not, at binary32. A product by +0 is a zero, and so is a sum of zeros. The difference of two
-- numbers of which one is the smaller is no zero, since one unit is a value of the format: it is under zero where the
-- first is the smaller, and over zero where the second is. Assumes nothing.
use mathlib.Core.Path.{◌≡◌, refl, sym, subst}
use mathlib.Core.Bool.{Bool, true, false}
use Prim.Native.Nat.{ℕ, ◌-◌, ◌<◌}
use native.Mathlib.Nat.{zero-mul}
use native.Mathlib.Omega.{arith}
use lib.Pow.{pow_pos}
use lib.Ieee.{Float, Format, binary32, binary64, low, round, neg, lt, of_bits}
use Rattle.binary32.specs.Arithmetic.{◌+f◌, ◌-f◌, ◌*f◌, 0f}
use Rattle.binary32.specs.Whole.{negative, magnitude}
use Rattle.binary32.proofs.Magnitude.{Finite, finite_number, same_number}
use Rattle.binary32.proofs.Comparison.{lt_units, units_lt}
use Rattle.binary32.proofs.RoundedSize.{rounded_to, nothing_short, rounded_nothing, rounded_mono, over_and_under}
use Rattle.binary32.proofs.Rounded.{Rounded, Exactly, exactly, by_fraction, by_difference}
use Rattle.binary32.proofs.Operations.{add_rounded, sub_rounded, mul_rounded, neg_finite}
use Rattle.binary32.proofs.Range.{zero_finite, zero_number, zero_over, zero_under}

-- ---- zeros, of either sign

-- what nothing rounds to is exactly zero
nothing : {f : Format} {z : Float} → Rounded f z 0 0 1 → Exactly f z 0
nothing {f} r = exactly r (nothing_short f) (pow_pos _)

pub zero_product : {x : Float} → Finite binary32 x → Exactly binary32 (0f *f x) 0
zero_product {x} h =
    nothing (by_fraction (mul_rounded zero_finite h) 0 0 1 (pow_pos (low binary32)) (pow_pos 0)
    (simp (zero_over, zero_under, zero-mul)))

pub zero_sum : {x y : Float} → Exactly binary32 x 0 → Exactly binary32 y 0 → Exactly binary32 (x +f y) 0
zero_sum hx hy =
    nothing (by_difference (add_rounded hx.finite hy.finite) 0 0
    (omega (arith, hx.above, hx.below, hy.above, hy.below)))

-- what holds of both zeros holds of what is exactly zero
pub by_zero : {z : Float} (P : Float → Type 0) → P 0f → P (neg 0f) → Exactly binary32 z 0 → P z
unfolding neg negative magnitude of_bits
by_zero {z} P positive minus h = go (negative z) refl
  where
    none : magnitude binary32 z ≡ 0
    none = omega (arith, h.above, h.below, over_and_under binary32 z)

    go : (s : Bool) → negative z ≡ s → P z
    go false s = subst P (sym (same_number (finite_number h.finite) zero_number s none)) positive
    go true s =
        let turned = finite_number (neg_finite zero_finite) in
        subst P (sym (same_number (finite_number h.finite) turned s none)) minus

-- ---- a rounding of what is not nothing is not nothing, and has its sign

-- one unit is a value of the format
one_unit : (f : Format) → rounded_to f 1 1 ≡ 1
unfolding rounded_to magnitude round
one_unit binary32 = refl
one_unit binary64 = refl

-- so what is at least one rounds to at least one, and nothing to nothing
pub rounded_some : (f : Format) (a : ℕ) → 0 < a → 0 < rounded_to f a 1
rounded_some f a h = omega (arith, one_unit f, rounded_mono f 1 1 a 1 (pow_pos 0) (pow_pos 0) (omega arith))

rounded_none : (f : Format) (a : ℕ) → a ≡ 0 → rounded_to f a 1 ≡ 0
rounded_none f a e = rw e (rounded_nothing f 1 (pow_pos 0))

-- what is under zero rounds to what is under it, and what is over zero to what is over it
module _ {z : Float} {p n : ℕ} (r : Rounded binary32 z p n 1) where
  under_zero : p < n → lt z 0f ≡ true
  under_zero h =
      units_lt r.number zero_number
      (omega (
        arith,
        zero_over,
        zero_under,
        r.above,
        r.below,
        rounded_none binary32 (p - n) (omega arith),
        rounded_some binary32 (n - p) (omega arith),
      ))

  over_zero : n < p → lt 0f z ≡ true
  over_zero h =
      units_lt zero_number r.number
      (omega (
        arith,
        zero_over,
        zero_under,
        r.above,
        r.below,
        rounded_some binary32 (p - n) (omega arith),
        rounded_none binary32 (n - p) (omega arith),
      ))

-- ---- differences

module _ {x y : Float} (hx : Finite binary32 x) (hy : Finite binary32 y) where
  pub difference_under : lt x y ≡ true → lt (x -f y) 0f ≡ true
  difference_under l = under_zero (sub_rounded hx hy) (omega (arith, lt_units (finite_number hx) (finite_number hy) l))

  pub difference_over : lt y x ≡ true → lt 0f (x -f y) ≡ true
  difference_over l = over_zero (sub_rounded hx hy) (omega (arith, lt_units (finite_number hy) (finite_number hx) l))

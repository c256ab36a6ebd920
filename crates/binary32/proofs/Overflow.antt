-- Where nothing overflows: a finite number times a factor in 0..1 is finite, in either format; and so is, at binary32,
-- a finite number plus one in 0..1, since the largest f32 and 1 add to the largest f32. Assumes nothing.
use mathlib.Core.Path.{◌≡◌, refl, subst}
use Prim.Native.Nat.{◌+◌, ◌≤◌}
use native.Mathlib.Omega.{arith}
use lib.Pow.{pow_pos}
use lib.Ieee.{Float, Format, binary32, add, mul, of_bits}
use lib.Ieee.Bits.{of_bits-fits}
use Rattle.binary32.specs.Arithmetic.{◌+f◌}
use Rattle.binary32.specs.Whole.{negative, magnitude, over, under}
use Rattle.binary32.proofs.Magnitude.{Finite, finite_number, finite_under, under_finite}
use Rattle.binary32.proofs.Comparison.{units_le}
use Rattle.binary32.proofs.RoundedSize.{over_and_under}
use Rattle.binary32.proofs.Rounded.{Rounded, rounded_order, own_rounding}
use Rattle.binary32.proofs.Operations.{add_rounded, mul_rounded}
use Rattle.binary32.proofs.Values.{largest, at_most_largest}
use Rattle.binary32.proofs.Products.{unit, unit_finite, over_unit, under_unit, Factor, factor_over, factor_under}
use Rattle.binary32.proofs.Range.{between_finite}

-- ---- a product by a factor in 0..1 is no larger in size

pub product_finite : {f : Format} {s x : Float} → Factor f s → Finite f x → Finite f (mul f s x)
product_finite {f} {s} {x} k h =
    under_finite (mul_rounded k.number h).number
    (omega (arith, over_and_under f (mul f s x), over_and_under f x, factor_over k h, factor_under k h, finite_under h))

-- ---- the largest f32

maximum : Float
maximum = of_bits binary32 0x7f7f_ffff

maximum_finite : Finite binary32 maximum
unfolding maximum of_bits
maximum_finite = record { fits = of_bits-fits binary32 0x7f7f_ffff; finite = tt }

maximum_over : over binary32 maximum ≡ largest binary32
unfolding maximum of_bits over negative magnitude largest
maximum_over = refl

maximum_under : under binary32 maximum ≡ 0
unfolding maximum of_bits under negative
maximum_under = refl

-- 1 more is rounded off
maximum_and_one : maximum +f unit ≡ maximum
unfolding maximum of_bits add
maximum_and_one = refl

-- ---- a number in 0..1 and a finite number x add to one from x to the largest f32

pub sum_finite : {b x : Float} → Factor binary32 b → Finite binary32 x → Finite binary32 (b +f x)
sum_finite {b} {x} k hx =
    let r = add_rounded k.number hx in
    let top : Rounded binary32 maximum (over binary32 maximum + over binary32 unit)
    (under binary32 maximum + under binary32 unit) 1 =
    subst (λ (z : Float). Rounded binary32 z (over binary32 maximum + over binary32 unit)
    (under binary32 maximum + under binary32 unit) 1)
    maximum_and_one (add_rounded maximum_finite (unit_finite binary32)) in
    let at_most_one : over binary32 b ≤ over binary32 unit = rw (over_unit binary32) k.to in
    let most : magnitude binary32 x ≤ over binary32 maximum = rw maximum_over (at_most_largest hx) in
    record {
      fits = r.number.fits;
      finite = between_finite hx.finite maximum_finite.finite (record {
        from =
            units_le (finite_number hx) r.number
            (rounded_order (own_rounding hx) r (pow_pos 0) (pow_pos 0) (omega (arith, k.from)));
        to = units_le r.number (finite_number maximum_finite)
            (rounded_order r top (pow_pos 0) (pow_pos 0)
            (omega (arith, maximum_under, under_unit binary32, over_and_under binary32 x)));
      });
    }

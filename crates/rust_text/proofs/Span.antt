-- What airmode divides, and what it divides by: 1 - idle lies in 0..1, and so does the quotient of such a number by
-- anything larger. So the Rust's test of the quotient, for what is not finite or negative, never holds. Assumes
-- nothing.
use mathlib.Core.Path.{◌≡◌, ◌∙◌, subst}
use mathlib.Core.Bool.{true}
use Prim.Native.Nat.{ℕ, ◌+◌, ◌*◌, ◌^◌, ◌≤◌, ◌<◌}
use native.Mathlib.Nat.{mul_comm, mul-le-mul_right, zero-mul, zero-sub, lt_of_le_of_lt}
use native.Mathlib.Omega.{arith}
use lib.Pow.{pow_pos}
use lib.Ieee.{Float, Format, low, lt, div}
use Rattle.binary32.specs.Arithmetic.{◌-f◌, 0f, 1f}
use Rattle.binary32.specs.Whole.{magnitude, over, under}
use Rattle.binary32.specs.Range.{Between}
use Rattle.binary32.proofs.Magnitude.{Finite, finite_number, finite_under, under_finite}
use Rattle.binary32.proofs.Comparison.{units_le, le_units, lt_units}
use Rattle.binary32.proofs.RoundedSize.{over_positive, over_and_under, rounded_nothing}
use Rattle.binary32.proofs.Positive.{positive}
use Rattle.binary32.proofs.Rounded.{Rounded, rounded_order, own_rounding}
use Rattle.binary32.proofs.Operations.{sub_rounded, div_rounded}
use Rattle.binary32.proofs.Products.{unit, unit_finite, over_unit, under_unit, Factor}
use Rattle.binary32.proofs.Range.{zero_finite, one_finite, zero_number, one_number, zero_over, zero_under}
use Rattle.rules.proofs.Clamp.{Floor, inside_number}

pub span_between : {idle : Float} → Floor idle → Between 0f 1f (1f -f idle)
span_between {idle} h =
    let r = sub_rounded one_finite h.finite in
    let low_end = le_units zero_number (inside_number h) h.between.from in
    let high_end = le_units (inside_number h) one_number h.between.to in
    record {
      from =
          units_le zero_number r.number
          (rounded_order (own_rounding zero_finite) r (pow_pos 0) (pow_pos 0)
          (omega (arith, zero_over, zero_under)));
      to =
          units_le r.number one_number
          (rounded_order r (own_rounding one_finite) (pow_pos 0) (pow_pos 0) (omega (arith, zero_over, zero_under)));
    }

-- a factor is a number in 0..1; in either format
pub factor_quotient : {f : Format} {r d : Float} → Factor f r → Finite f d → lt r d ≡ true → Factor f (div f r d)
factor_quotient {f} {r} {d} k hd e =
    let L = 2 ^ low f in
    let n = magnitude f d in
    let z = div f r d in
    let less = lt_units (finite_number k.number) (finite_number hd) e in
    let pd = positive (finite_number hd) (omega (arith, k.from)) in
    let size : over f d ≡ n = over_positive f d pd.plus in
    let some : 0 < n = subst (λ (a : ℕ). 0 < a) size pd.some in
    let at_most : over f r ≤ n = omega (arith, k.from) in
    let q : Rounded f z (over f r * L) (under f r * L) n = simp pd.plus at (div_rounded k.number hd some) in
    let none : under f z ≡ 0 = simp (k.from, zero-mul, zero-sub) at q.below ∙ rounded_nothing f n some in
    let product : over f r * L ≤ n * L = mul-le-mul_right L at_most in
    let order : over f z + under f unit ≤ over f unit + under f z =
    rounded_order q (own_rounding (unit_finite f)) some (pow_pos 0)
    (simp (over_unit, under_unit, k.from, zero-mul, mul_comm L n) (omega arith)) in
    let most : over f z ≤ L = omega (arith, over_unit f, under_unit f) in
    let small : magnitude f z ≤ magnitude f unit =
    omega (arith, over_and_under f z, over_and_under f unit, over_unit f, under_unit f) in
    record {
      number = under_finite q.number (lt_of_le_of_lt small (finite_under (unit_finite f)));
      from = none;
      to = most;
    }

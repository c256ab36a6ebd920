-- A sum that was treated and then lowered is at most a finite number, so it is no NaN and not +infinity: the Rust's
-- clamp to 0..1, which would pass these on, is then document 01's. Assumes nothing.
use mathlib.Core.Path.{◌≡◌, refl, sym, ◌∙◌}
use mathlib.Core.Bool.{true, false, false≢true}
use mathlib.Core.List.{List, [], ◌∷◌, map, map-map}
use native.Mathlib.Omega.{arith}
use lib.Dec.{T}
use lib.Pow.{pow_pos}
use lib.Ieee.{Float, nan, inf, fin, binary32, is_nan, lt, le, eq, of_bits}
use lib.Ieee.Fits.{sub-fits}
use lib.Ieee.Scale.{finite}
use Rattle.general.specs.Each.{Each}
use Rattle.general.proofs.Lists.{each_same}
use Rattle.binary32.specs.Arithmetic.{◌-f◌, 0f, 1f}
use Rattle.binary32.specs.Range.{Between}
use Rattle.binary32.proofs.Magnitude.{Number, Finite, finite_number}
use Rattle.binary32.proofs.Comparison.{less_le, le_refl, le_units, lt_units, units_le}
use Rattle.binary32.proofs.Rounded.{rounded_order, own_rounding}
use Rattle.binary32.proofs.Operations.{sub_rounded}
use Rattle.binary32.proofs.Range.{zero_finite, one_finite, zero_number, one_number, zero_over, zero_under}
use Rattle.binary32.proofs.Range.{between_finite}
use Rattle.binary32.proofs.Zero.{difference_over}
use Rattle.number.specs.Treat.{clamped, floor_clamp}
use Rattle.number.proofs.Choice.{by_test}
use Rattle.rules.specs.Extremes.{largest}
use Rattle.rules.specs.Plain.{lowered_by, lowered, lower_limited}
use Rattle.rules.proofs.Clamp.{zero_floor}
use Rattle.rules.proofs.Extremes.{largest_is}
use Rattle.rust_text.specs.Numbers.{clamp01}
use Rattle.rust_text.proofs.Numbers.{clamp01_is}

-- ---- what is at most a finite number is clamped alike

infinity_over : (x : Float) → T (finite x) → le (inf false) x ≡ true → ⊥
unfolding le lt eq
infinity_over nan t e = absurd t
infinity_over (inf s) t e = absurd t
infinity_over (fin s m k) t e = false≢true e

clamped_alike : {x : Float} (z : Float) → Number binary32 z → Finite binary32 x → le z x ≡ true
    → clamped z 0f 1f ≡ floor_clamp z 0f
unfolding floor_clamp clamped is_nan
clamped_alike nan n h e = absurd n.number
clamped_alike (inf true) n h e = unfold lt of_bits in refl
clamped_alike {x} (inf false) n h e = absurd (infinity_over x h.finite e)
clamped_alike (fin s m k) n h e = refl

-- ---- and a lowered number is that

-- 1 less than a finite number over 1
less_one : {most : Float} → Finite binary32 most → lt 1f most ≡ true → Finite binary32 (most -f 1f)
less_one {most} h e =
    let r = sub_rounded h one_finite in
    let one = le_units zero_number one_number zero_floor.between.to in
    let order =
    units_le r.number (finite_number h)
    (rounded_order r (own_rounding h) (pow_pos 0) (pow_pos 0) (omega (arith, zero_over, zero_under))) in
    let between : Between 0f most (most -f 1f) =
    record { from = less_le 0f (most -f 1f) (difference_over h one_finite e); to = order } in
    record {
      fits = sub-fits binary32 most 1f;
      finite = between_finite zero_finite.finite h.finite between;
    }

-- a number, at most x
record AtMost (x z : Float) : Type 0 where
  number : Number binary32 z
  most : le z x ≡ true

lowered_at_most : {most x : Float} → Finite binary32 most → Finite binary32 x → AtMost x (lowered_by most x)
unfolding lowered_by
lowered_at_most {most} {x} hm hx =
    by_test (AtMost x) (lt 1f most)
    (λ e.
    let less = less_one hm e in
    let r = sub_rounded hx less in
    let over = lt_units zero_number (finite_number less) (difference_over hm one_finite e) in
    record {
      number = r.number;
      most =
          units_le r.number (finite_number hx)
          (rounded_order r (own_rounding hx) (pow_pos 0) (pow_pos 0) (omega (arith, zero_over, zero_under)));
    })
    (λ e. record { number = finite_number hx; most = le_refl (finite_number hx) })

-- ---- so of finite numbers, lowered, the two ends are one

pub end_is : (xs : List Float) → Each (Finite binary32) xs → map (λ v. clamp01 v) (lowered xs) ≡ lower_limited xs
unfolding lower_limited lowered
end_is [] hs = refl
end_is (x ∷ xs) hs =
    let most = largest (x ∷ xs) in
    let hm = largest_is (Finite binary32) x xs hs in
    map-map (λ v. clamp01 v) (lowered_by most) (x ∷ xs)
    ∙ each_same (Finite binary32) (λ v. clamp01 (lowered_by most v)) (λ v. floor_clamp (lowered_by most v) 0f)
    (λ v hv.
    let z = lowered_at_most hm hv in
    clamp01_is (lowered_by most v) ∙ clamped_alike (lowered_by most v) z.number hv z.most) (x ∷ xs) hs
    ∙ sym (map-map (λ v. floor_clamp v 0f) (lowered_by most) (x ∷ xs))

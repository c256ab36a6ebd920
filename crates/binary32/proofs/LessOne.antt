-- Taking 1 from a number is exact from 1 up to 2 ^ prec, up to which a format counts the whole numbers without a gap;
-- and so the number less that difference is 1 again, by bits. Under 2 ^ prec the number is a multiple of its last
-- digit, which divides 1, or it is a whole number. In either format. Assumes nothing.
use mathlib.Core.Path.{◌≡◌, refl, sym, ap, ◌∙◌, subst}
use mathlib.Core.Bool.{false}
use Prim.Native.Nat.{ℕ, ◌+◌, ◌-◌, ◌*◌, ◌^◌, ◌≤◌, ◌<◌}
use native.Mathlib.Nat.{mul_assoc, one-mul, div-one, le_of_mul-le-mul_right}
use native.Mathlib.Decide.{dec_le}
use native.Mathlib.Omega.{arith}
use lib.Dec.{T}
use lib.Pow.{pow_pos}
use lib.IntN.{pos}
use lib.Ieee.{Float, fin, Format, binary32, binary64, prec, low, fits, sub}
use lib.Ieee.Scale.{overflow}
use Rattle.binary32.specs.Whole.{negative, magnitude, over, under}
use Rattle.binary32.specs.Range.{Between}
use Rattle.binary32.proofs.Magnitude.{Finite, finite_number, finite_under, pow_split}
use Rattle.binary32.proofs.Comparison.{le_units}
use Rattle.binary32.proofs.RoundedSize.{Short, short, over_positive, under_positive}
use Rattle.binary32.proofs.Positive.{positive}
use Rattle.binary32.proofs.Rounded.{Rounded, Exactly, exactly, times_difference}
use Rattle.binary32.proofs.Rounded.{by_difference, own_rounding, same_rounded}
use Rattle.binary32.proofs.Operations.{sub_rounded}
use Rattle.binary32.proofs.Products.{unit, unit_finite, over_unit, under_unit}
use Rattle.binary32.proofs.Range.{between_finite}

-- ---- the size less one has few digits

-- the last digit counts no more than 1
fine : (f : Format) (m k : ℕ) → k ≤ low f → m < 2 ^ prec f → Short f (m * 2 ^ k - 2 ^ low f)
fine f m k h few = record {
  digits = m - 2 ^ (low f - k);
  shift = k;
  few = omega arith;
  exact = rw (pow_split (low f) k h) (sym (times_difference m (2 ^ (low f - k)) (2 ^ k)));
}

-- it counts more, and the number is whole
whole : (f : Format) (m k : ℕ) → low f ≤ k → m * 2 ^ k ≤ 2 ^ prec f * 2 ^ low f → Short f (m * 2 ^ k - 2 ^ low f)
whole f m k h most =
    let n = m * 2 ^ (k - low f) in
    let is : m * 2 ^ k ≡ n * 2 ^ low f =
    ap (λ (a : ℕ). m * a) (pow_split k (low f) h) ∙ sym (mul_assoc m (2 ^ (k - low f)) (2 ^ low f)) in
    let few : n ≤ 2 ^ prec f =
    le_of_mul-le-mul_right (subst (λ (a : ℕ). a ≤ 2 ^ prec f * 2 ^ low f) is most) (pow_pos (low f)) in
    record {
      digits = n - 1;
      shift = low f;
      few = omega (arith, pow_pos (prec f));
      exact = rw is (sym (times_difference n 1 (2 ^ low f) ∙ ap (λ (a : ℕ). n * 2 ^ low f - a) (one-mul (2 ^ low f))));
    }

less_one_short : {f : Format} {n : ℕ} → Short f n → n ≤ 2 ^ prec f * 2 ^ low f → Short f (n - 2 ^ low f)
less_one_short {f} {n} s h = rw s.exact (go (dec_le s.shift (low f)))
  where
    go : Dec (s.shift ≤ low f) → Short f (s.digits * 2 ^ s.shift - 2 ^ low f)
    go (yes k) = fine f s.digits s.shift k s.few
    go (no k) =
        whole f s.digits s.shift (omega arith) (subst (λ (a : ℕ). a ≤ 2 ^ prec f * 2 ^ low f) s.exact h)

-- ---- the end, 2 ^ prec

abbrev pub end_of : Format → Float
end_of f = fin false 1 (pos (prec f))

end_finite : (f : Format) → Finite f (end_of f)
unfolding fits
end_finite binary32 = record { fits = tt; finite = tt }
end_finite binary64 = record { fits = tt; finite = tt }

over_end : (f : Format) → over f (end_of f) ≡ 2 ^ prec f * 2 ^ low f
unfolding over negative magnitude
over_end f = div-one (1 * 2 ^ prec f * 2 ^ low f) ∙ ap (λ (n : ℕ). n * 2 ^ low f) (one-mul (2 ^ prec f))

under_end : (f : Format) → under f (end_of f) ≡ 0
unfolding under negative
under_end f = refl

-- ---- a number from 1 to the end

module _ (f : Format) {x : Float} (held : T (fits f x)) (b : Between unit (end_of f) x) where
  number : Finite f x
  number = record { fits = held; finite = between_finite (unit_finite f).finite (end_finite f).finite b }

  from : over f unit + under f x ≤ over f x + under f unit
  from = le_units (finite_number (unit_finite f)) (finite_number number) b.from

  to : over f x + under f (end_of f) ≤ over f (end_of f) + under f x
  to = le_units (finite_number number) (finite_number (end_finite f)) b.to

  plus : negative x ≡ false
  plus = (positive (finite_number number) (omega (arith, from, over_unit f, under_unit f, pow_pos (low f)))).plus

  nothing_below : under f x ≡ 0
  nothing_below = under_positive f x plus

  -- less 1 it is exactly as many units less
  pub less_one : Exactly f (sub f x unit) (over f x - over f unit)
  less_one =
      let size = over_positive f x plus in
      let few : over f x ≤ 2 ^ prec f * 2 ^ low f = omega (arith, to, nothing_below, over_end f, under_end f) in
      let less : over f x - over f unit < overflow f = omega (arith, size, finite_under number) in
      exactly (by_difference (sub_rounded number (unit_finite f)) (over f x - over f unit) 0
      (omega (arith, from, nothing_below, under_unit f)))
      (rw over_unit (less_one_short (rw size (short number)) few))
      less

  -- and less that difference it is 1
  pub back_to_one : sub f x (sub f x unit) ≡ unit
  unfolding negative
  back_to_one =
      let d = less_one in
      let z = sub f x (sub f x unit) in
      let r : Rounded f z (over f unit) (under f unit) 1 =
      by_difference (sub_rounded number d.finite) (over f unit) (under f unit)
      (omega (arith, from, nothing_below, under_unit f)) in
      let o = own_rounding (unit_finite f) in
      let some : 0 < over f z = omega (arith, r.above ∙ sym o.above, over_unit f, pow_pos (low f)) in
      same_rounded r o (positive r.number some).plus

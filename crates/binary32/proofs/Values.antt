-- The numbers that a format holds are those of IEEE 754-2019, 3.3: each has a size that is `Representable`, and of each
-- such size there is one of either sign. So what 4.3.1 says of the numbers of the format is about these whole numbers,
-- whatever the kit's test `fits` does. In either format. Assumes nothing.
use mathlib.Core.Path.{◌≡◌, refl, sym, ap, ◌∙◌}
use mathlib.Core.Bool.{Bool}
use Prim.Native.Nat.{ℕ, suc, ◌+◌, ◌-◌, ◌*◌, ◌^◌, ◌≤◌, ◌<◌}
use native.Mathlib.Nat.{mul_assoc, lt_of_mul-lt-mul_right, lt_of_lt_of_le, lt_of_le_of_lt}
use native.Mathlib.Nat.{le_of_eq, le_trans, mul-le-mul_left, mul-le-mul_right}
use native.Mathlib.Decide.{dec_le}
use native.Mathlib.Omega.{arith}
use lib.Pow.{pow-add, pow_mono, le_ones, shl_lt}
use lib.Ieee.{Float, Format, binary32, binary64, prec, emax, low, round}
use lib.Ieee.Scale.{overflow}
use Rattle.binary32.specs.Whole.{Representable, negative, magnitude}
use Rattle.binary32.proofs.Magnitude.{Finite, finite_under, under_finite, pow_split}
use Rattle.binary32.proofs.RoundedSize.{rounded_to, Short, short, rounded_short}
use Rattle.binary32.proofs.RoundedSize.{round_number, round_negative, round_size}

-- the largest shift, and all digits, reach up to the overflow bound
reaches : (f : Format) → prec f + (2 * emax f - 1) ≡ low f + suc (emax f)
reaches binary32 = refl
reaches binary64 = refl

-- ---- a number's size

pub representable : {f : Format} {x : Float} → Finite f x → Representable f (magnitude f x)
representable {f} {x} h = go (dec_le k.shift most)
  where
    k : Short f (magnitude f x)
    k = short h

    most : ℕ
    most = 2 * emax f - 1

    go : Dec (k.shift ≤ most) → Representable f (magnitude f x)
    go (yes l) = record { digits = k.digits; shift = k.shift; few = k.few; reach = l; is = k.exact }
    -- a longer shift is all zeros at the digits' end
    go (no l) =
        let long : most ≤ k.shift = omega arith in
        let d = k.digits * 2 ^ (k.shift - most) in
        let is : magnitude f x ≡ d * 2 ^ most =
        k.exact ∙ ap (λ (n : ℕ). k.digits * n) (pow_split k.shift most long)
        ∙ sym (mul_assoc k.digits (2 ^ (k.shift - most)) (2 ^ most)) in
        let under : d * 2 ^ most < 2 ^ prec f * 2 ^ most =
        lt_of_le_of_lt (le_of_eq (sym is)) (lt_of_lt_of_le (finite_under h)
        (le_of_eq (ap (λ (n : ℕ). 2 ^ n) (sym (reaches f)) ∙ pow-add 2 (prec f) most))) in
        record { digits = d; shift = most; few = lt_of_mul-lt-mul_right (2 ^ most) under; reach = omega arith; is = is }

-- ---- the largest of them

unfoldable pub largest : Format → ℕ
largest f = (2 ^ prec f - 1) * 2 ^ (2 * emax f - 1)

pub at_most_largest : {f : Format} {x : Float} → Finite f x → magnitude f x ≤ largest f
unfolding largest
at_most_largest {f} h =
    let r = representable h in
    le_trans (le_of_eq r.is) (le_trans (mul-le-mul_right (2 ^ r.shift) (le_ones (prec f) r.few))
    (mul-le-mul_left (2 ^ prec f - 1) (pow_mono r.reach)))

-- ---- and a number of each such size

pub record NumberOf (f : Format) (s : Bool) (n : ℕ) : Type 0 where
  pub value : Float
  pub finite : Finite f value
  pub sign : negative value ≡ s
  pub size : magnitude f value ≡ n

pub number_of : {f : Format} {n : ℕ} (s : Bool) → Representable f n → NumberOf f s n
unfolding rounded_to
number_of {f} {n} s r =
    let x = round f s n (1 * 2 ^ low f) in
    let under : n < overflow f =
    lt_of_le_of_lt (le_of_eq r.is)
    (lt_of_lt_of_le (shl_lt (prec f) r.shift r.few) (pow_mono (omega (arith, r.reach, reaches f)))) in
    let size : magnitude f x ≡ n =
    round_size f s n (1 * 2 ^ low f)
    ∙ rounded_short (record { digits = r.digits; shift = r.shift; few = r.few; exact = r.is }) under in
    record {
      value = x;
      finite = under_finite (round_number f s n (1 * 2 ^ low f)) (lt_of_le_of_lt (le_of_eq size) under);
      sign = round_negative f s n (1 * 2 ^ low f);
      size = size;
    }

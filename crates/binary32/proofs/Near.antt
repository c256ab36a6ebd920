-- How far a rounded result lies from the exact one, as a proof about a program uses it: in natural numbers, with the
-- size of the exact result bounded and no case for small numbers. `Near f z p n c e` says that z is finite and within e
-- units of (p - n) / c. In either format. Assumes nothing.
use mathlib.Core.Path.{◌≡◌, ap, ap₂, ◌∙◌, subst₂}
use mathlib.Core.Bool.{cond}
use Prim.Native.Nat.{ℕ, zero, suc, ◌+◌, ◌-◌, ◌*◌, ◌^◌, ◌≤◌, ◌<◌}
use native.Mathlib.Nat.{mul_assoc, mul_right_comm, zero-mul, mul-zero, suc-mul, add-mul, pow-suc}
use native.Mathlib.Nat.{mul-le-mul_right, le_of_mul-le-mul_left, le_of_mul-le-mul_right}
use native.Mathlib.Nat.{mul-lt-mul_of_pos_right, le_trans, le_of_eq, lt_of_le_of_lt}
use native.Mathlib.Decide.{dec_le}
use native.Mathlib.Omega.{arith}
use lib.Pow.{pow_pos}
use lib.IntN.{ℤ, nat_abs, sub_ℕ}
use lib.Ieee.{Float, Format, prec, low, add, sub, mul, div}
use Rattle.binary32.specs.Whole.{negative, magnitude, over, under}
use Rattle.binary32.specs.Nearest.{distance, bound, RoundsTo}
use Rattle.binary32.specs.HalfUnit.{least_normal, WithinHalfUnit}
use Rattle.binary32.proofs.Magnitude.{Finite, is_finite}
use Rattle.binary32.proofs.RoundedSize.{rounded_to, rounded_nothing}
use Rattle.binary32.proofs.Rounded.{Rounded, times_difference}
use Rattle.binary32.proofs.Integers.{Difference, difference, whole_difference}
use Rattle.binary32.proofs.Integers.{sum_of, negated_of, times_of, size_of}
use Rattle.binary32.proofs.NearestSize.{gap}
use Rattle.binary32.proofs.Operations.{add_rounded, sub_rounded, mul_rounded, div_rounded}
use Rattle.binary32.proofs.Delivered.{rounds_to}
use Rattle.binary32.proofs.HalfUnit.{half_unit, distance_most}

-- ---- a distance in natural numbers

-- how far z lies from (p - n) / c units, multiplied by c
unfoldable pub apart : Format → Float → ℕ → ℕ → ℕ → ℕ
apart f z p n c = gap (p + under f z * c) (n + over f z * c)

pub distance_apart : {w : ℤ} {p n : ℕ} (f : Format) (z : Float) (c : ℕ) → Difference w p n
    → distance f w c z ≡ apart f z p n c
unfolding distance apart
distance_apart f z c d = size_of (sum_of d (negated_of (times_of (whole_difference f z) c)))

-- z is finite, and within e units of (p - n) / c
pub record Near (f : Format) (z : Float) (p n c e : ℕ) : Type 0 where
  pub finite : Finite f z
  pub within : apart f z p n c ≤ e * c

-- ---- what is known of every rounding

pub record Error (f : Format) (z : Float) (p n c : ℕ) : Type 0 where
  -- an exact result under the bound is rounded to a finite number
  pub finite : {b : ℕ} → b < bound f → gap p n ≤ b * c → Finite f z
  -- a finite z lies within half of 2 ^ k units of an exact result of at most 2 ^ (prec + k) units: sharp at a power of
  -- two
  pub half : Finite f z → (k : ℕ) → gap p n ≤ 2 ^ (prec f + k) * c → 2 * apart f z p n c ≤ 2 ^ k * c
  -- within e units of one of at most 2 ^ prec * e units, whatever e is
  pub near : Finite f z → (e : ℕ) → gap p n ≤ 2 ^ prec f * e * c → Near f z p n c e
  -- and by the size itself, with half of a unit for what is small
  pub by_size : Finite f z → 2 ^ prec f * apart f z p n c ≤ gap p n + least_normal f * c

module _ {f : Format} {z : Float} {p n c : ℕ} (r : Rounded f z p n c) (C : 0 < c) where
  delivered : RoundsTo f (sub_ℕ p n) c z
  delivered = rounds_to r (difference p n) C

  rounded_finite : {b : ℕ} → b < bound f → gap p n ≤ b * c → Finite f z
  rounded_finite {b} room most =
      let under : nat_abs (sub_ℕ p n) < bound f * c =
      lt_of_le_of_lt (le_trans (le_of_eq (size_of (difference p n))) most) (mul-lt-mul_of_pos_right room C) in
      let nearest = (delivered.within under).0 in
      is_finite nearest.held nearest.number

  -- `WithinHalfUnit` in natural numbers
  module _ (h : Finite f z) where
    within_half : WithinHalfUnit f (sub_ℕ p n) c z
    within_half = half_unit h.finite delivered C

    -- a fact about integers, said of the pair
    in_pair : (P : ℕ → ℕ → Type 0) → P (nat_abs (sub_ℕ p n)) (distance f (sub_ℕ p n) c z)
        → P (gap p n) (apart f z p n c)
    in_pair P = subst₂ P (size_of (difference p n)) (distance_apart f z c (difference p n))

    half_place : (k : ℕ) → gap p n ≤ 2 ^ (prec f + k) * c → 2 * apart f z p n c ≤ 2 ^ k * c
    half_place k = in_pair (λ a d. a ≤ 2 ^ (prec f + k) * c → 2 * d ≤ 2 ^ k * c) (within_half.last_place k)

    half_normal : least_normal f * c ≤ gap p n → 2 ^ prec f * apart f z p n c ≤ gap p n
    half_normal = in_pair (λ a d. least_normal f * c ≤ a → 2 ^ prec f * d ≤ a) within_half.normal

    half_subnormal : gap p n < least_normal f * c → 2 * apart f z p n c ≤ c
    half_subnormal = in_pair (λ a d. a < least_normal f * c → 2 * d ≤ c) within_half.subnormal

    sized : 2 ^ prec f * apart f z p n c ≤ gap p n + least_normal f * c
    sized = in_pair (λ a d. 2 ^ prec f * d ≤ a + least_normal f * c) (distance_most within_half)

    -- what is under the least normal number is within one unit, and nothing is rounded to nothing
    small_within : (e : ℕ) → gap p n ≤ 2 ^ prec f * e * c → 2 * apart f z p n c ≤ c → apart f z p n c ≤ e * c
    unfolding apart
    small_within zero most small =
        let none : gap p n ≤ 0 = rw (mul-zero (2 ^ prec f), zero-mul c) at most in
        let above : over f z ≡ 0 = r.above ∙ ap (λ (a : ℕ). rounded_to f a c) (omega arith) ∙ rounded_nothing f c C in
        let below : under f z ≡ 0 = r.below ∙ ap (λ (a : ℕ). rounded_to f a c) (omega arith) ∙ rounded_nothing f c C in
        rw (above, below, zero-mul c) (omega arith)
    small_within (suc e) most small = omega (arith, suc-mul e c)

    within_size : (e : ℕ) → gap p n ≤ 2 ^ prec f * e * c → apart f z p n c ≤ e * c
    within_size e most = go (dec_le (least_normal f * c) (gap p n))
      where
        go : Dec (least_normal f * c ≤ gap p n) → apart f z p n c ≤ e * c
        go (yes l) =
            le_of_mul-le-mul_left (le_trans (half_normal l) (le_trans most (le_of_eq (mul_assoc (2 ^ prec f) e c))))
            (pow_pos (prec f))
        go (no l) = small_within e most (half_subnormal (omega arith))

  pub error : Error f z p n c
  error = record {
    finite = rounded_finite;
    half = half_place;
    near = λ h e most. record { finite = h; within = within_size h e most };
    by_size = sized;
  }

module _ {f : Format} {z : Float} {p n c : ℕ} (error : Error f z p n c) where
  -- where e is a power of two, the exact result may be twice as large
  pub near_power : Finite f z → (k : ℕ) → gap p n ≤ 2 ^ (prec f + suc k) * c → Near f z p n c (2 ^ k)
  near_power h k most =
      record {
        finite = h;
        within =
            omega (arith, error.half h (suc k) most, ap (λ (a : ℕ). a * c) (pow-suc 2 k), mul_right_comm (2 ^ k) 2 c);
      }

  -- most programs know of the size that it is under the bound, and so that z is finite
  pub near_under : (e : ℕ) → 2 ^ prec f * e < bound f → gap p n ≤ 2 ^ prec f * e * c → Near f z p n c e
  near_under e room most = error.near (error.finite room most) e most

  pub power_under : (k : ℕ) → 2 ^ (prec f + suc k) < bound f → gap p n ≤ 2 ^ (prec f + suc k) * c
      → Near f z p n c (2 ^ k)
  power_under k room most = near_power (error.finite room most) k most

-- ---- the four operations

module _ {f : Format} {x y : Float} (hx : Finite f x) (hy : Finite f y) where
  pub add_error : Error f (add f x y) (over f x + over f y) (under f x + under f y) 1
  add_error = error (add_rounded hx hy) (pow_pos 0)

  pub sub_error : Error f (sub f x y) (over f x + under f y) (under f x + over f y) 1
  sub_error = error (sub_rounded hx hy) (pow_pos 0)

  pub mul_error : Error f (mul f x y) (over f x * over f y + under f x * under f y)
      (over f x * under f y + under f x * over f y) (2 ^ low f)
  mul_error = error (mul_rounded hx hy) (pow_pos (low f))

  pub div_error : 0 < magnitude f y
      → Error f (div f x y) (cond (negative y) (under f x) (over f x) * 2 ^ low f)
      (cond (negative y) (over f x) (under f x) * 2 ^ low f) (magnitude f y)
  div_error some = error (div_rounded hx hy some) some

-- ---- one rounding after another: what is within e units of one exact result, which is within g units of another, is
-- within e + g units of that

pub gap_times : (a b c : ℕ) → gap a b * c ≡ gap (a * c) (b * c)
gap_times a b c = add-mul (a - b) (b - a) c ∙ ap₂ ◌+◌ (times_difference a b c) (times_difference b a c)

detour : (P N Q M U O e g : ℕ) → gap (P + U) (N + O) ≤ e → gap (P + M) (Q + N) ≤ g → gap (Q + U) (M + O) ≤ e + g
detour P N Q M U O e g h k = omega arith

pub near_from : {f : Format} {z : Float} {p n c e : ℕ} → Near f z p n c e → 0 < c → (q m d g : ℕ)
    → gap (p * d + m * c) (q * c + n * d) ≤ g * d * c → Near f z q m d (e + g)
unfolding apart
near_from {f} {z} {p} {n} {c} {e} near C q m d g between =
    let U = under f z in
    let O = over f z in
    let first : gap (p * d + U * d * c) (n * d + O * d * c) ≤ e * d * c =
    simp (gap_times, add-mul, mul_right_comm U c d, mul_right_comm O c d, mul_right_comm e c d) at (mul-le-mul_right d
    near.within) in
    let both : gap (q * c + U * d * c) (m * c + O * d * c) ≤ e * d * c + g * d * c =
    detour (p * d) (n * d) (q * c) (m * c) (U * d * c) (O * d * c) (e * d * c) (g * d * c) first between in
    record { finite = near.finite; within = le_of_mul-le-mul_right (simp (gap_times, add-mul) both) C }

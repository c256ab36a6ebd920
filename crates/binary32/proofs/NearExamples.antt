-- What the error bound is for, on one program in each format: a collective and a scaled delta at binary32, as
-- thrust-floor adds them, and two terms of a series at binary64. And that it can be no smaller, nor be said of the size
-- that is delivered. Assumes nothing.
use mathlib.Core.Path.{◌≡◌, refl}
use Prim.Native.Nat.{ℕ, ◌+◌, ◌-◌, ◌*◌, ◌^◌, ◌≤◌, ◌<◌}
use native.Mathlib.Nat.{zero-mul, mul-one, mul_assoc, mul_left_comm, mul-add, add-mul, mul-le-mul}
use native.Mathlib.Nat.{mul-le-mul_right, le_of_mul-le-mul_right, le_trans, le_of_eq}
use native.Mathlib.Omega.{arith}
use lib.Dec.{lit<, lit≤}
use lib.Pow.{pow_pos}
use lib.IntN.{pos, ◌+ℤ◌, ◌-ℤ◌, ◌*ℤ◌}
use lib.Ieee.{Float, binary32, binary64, low, fits, round, sub, div, of_bits}
use Rattle.binary32.specs.Arithmetic.{◌+f◌, ◌*f◌}
use Rattle.binary32.specs.Whole.{negative, magnitude, over, under, whole_of}
use Rattle.binary32.specs.Rounding.{rounding}
use Rattle.binary32.specs.Nearest.{distance, bound}
use Rattle.binary32.specs.HalfUnit.{least_normal}
use Rattle.binary32.proofs.Magnitude.{Finite}
use Rattle.binary32.proofs.RoundedSize.{over_and_under}
use Rattle.binary32.proofs.NearestSize.{gap}
use Rattle.binary32.proofs.Integers.{natural, whole_difference, sum_of, negated_of, times_of, product_of}
use Rattle.binary32.proofs.Products.{unit, unit_finite, over_unit, under_unit, Factor, factor_over, factor_under}
use Rattle.binary32.proofs.Near.{apart, distance_apart, Near, add_error, sub_error}
use Rattle.binary32.proofs.Near.{mul_error, div_error, power_under, gap_times, near_from}

-- ---- binary32: b + s * d, where b and s lie in 0..1 and d in -1..1, is within 2 ^ -24 + 2 ^ -25 of the exact value

-- L stands for 1, in units; the facts that are needed of it are few
product_most : (L s d u : ℕ) → s ≤ L → d + u ≤ L → gap (s * d + 0 * u) (s * u + 0 * d) ≤ L * L
product_most L s d u hs hd =
    let most : s * (d + u) ≤ L * L = mul-le-mul hs hd in omega (arith, mul-add s d u, zero-mul u, zero-mul d)

sum_most : (L T b v w o u : ℕ) → T ≡ L + L → b ≤ L → v ≤ o → w ≤ u → o + u ≤ L → gap (b + v) (0 + w) ≤ T * 1
sum_most L T b v w o u t hb hv hw h = omega (arith, mul-one T)

-- a sum with a rounded part lies as far from the sum of the exact numbers as that part from its own exact value
part_apart : (L o u P N v w e : ℕ) → gap (P + w * L) (N + v * L) ≤ e * L
    → gap ((o + v) * L + (u * L + N) * 1) ((o * L + P) * 1 + (u + w) * L) ≤ e * L * 1
part_apart L o u P N v w e h = simp (add-mul, mul-one) (omega arith)

module _ {b s d : Float} (hb : Factor binary32 b) (hs : Factor binary32 s) (hd : Finite binary32 d)
    (small : magnitude binary32 d ≤ 2 ^ low binary32) where
  within_one : over binary32 d + under binary32 d ≤ 2 ^ low binary32
  within_one = le_trans (le_of_eq (over_and_under binary32 d)) small

  -- the product is at most 1 in size, and so within 2 ^ -25
  product : Near binary32 (s *f d)
      (over binary32 s * over binary32 d + under binary32 s * under binary32 d)
      (over binary32 s * under binary32 d + under binary32 s * over binary32 d) (2 ^ 149) (2 ^ 124)
  unfolding bound
  product =
      power_under (mul_error hs.number hd) 124 (lit< tt)
      (rw hs.from (product_most (2 ^ 149) _ _ _ hs.to within_one))

  -- the sum is at most 2 in size, and so within 2 ^ -24
  sum : Near binary32 (b +f s *f d) (over binary32 b + over binary32 (s *f d))
      (under binary32 b + under binary32 (s *f d)) 1 (2 ^ 125)
  unfolding bound
  sum =
      power_under (add_error hb.number product.finite) 125 (lit< tt)
      (rw hb.from
      (sum_most (2 ^ 149) (2 ^ 150) _ _ _ _ _ refl hb.to (factor_over hs hd) (factor_under hs hd) within_one))

  pub scaled_sum_within :
      distance binary32 (whole_of binary32 b *ℤ pos (2 ^ 149) +ℤ whole_of binary32 s *ℤ whole_of binary32 d) (2 ^ 149)
      (b +f s *f d) ≤ (2 ^ 125 + 2 ^ 124) * 2 ^ 149
  unfolding apart
  scaled_sum_within =
      let whole = whole_difference binary32 in
      rw (distance_apart binary32 (b +f s *f d) (2 ^ 149)
      (sum_of (times_of (whole b) (2 ^ 149)) (product_of (whole s) (whole d))))
      (near_from sum (pow_pos 0) _ _ (2 ^ 149) (2 ^ 124)
      (part_apart (2 ^ 149) (over binary32 b) (under binary32 b) _ _ _ _ (2 ^ 124) product.within)).within

-- ---- binary64: 1 - x / 6, where x lies in 0..49, is within 2 ^ -49 of the exact value: so it is with x the square of
-- a number up to 7, and two terms of the sine's series

pub six : Float
six = of_bits binary64 0x4018_0000_0000_0000

six_finite : Finite binary64 six
unfolding six of_bits fits
six_finite = record { fits = tt; finite = tt }

quotient_most : (L T x : ℕ) → x ≤ 49 * L → T ≡ 16 * L → gap (x * L) (0 * L) ≤ T * (6 * L)
quotient_most L T x h t =
    let most : x * L ≤ 49 * L * L = mul-le-mul_right L h in
    simp (t, mul_assoc, mul_left_comm, zero-mul) (omega (arith, mul_assoc 49 L L))

-- both sides of a quotient are over 6 * L, and so over 6
over_six : (L x u o w e : ℕ) → 0 < L → gap (x * L + w * (6 * L)) (u * L + o * (6 * L)) ≤ e * (6 * L)
    → gap (x + w * 6) (u + o * 6) ≤ e * 6
over_six L x u o w e some h =
    le_of_mul-le-mul_right
    (simp (gap_times, add-mul, mul_assoc) h)
    some

difference_most : (L T x o w e : ℕ) → x ≤ 49 * L → T ≡ 16 * L → e ≤ L → gap (x + w * 6) (0 + o * 6) ≤ e * 6
    → gap (L + w) (0 + o) ≤ T * 1
difference_most L T x o w e h t small near = omega (arith, mul-one T)

difference_apart : (L x u o w e : ℕ) → gap (x + w * 6) (u + o * 6) ≤ e * 6
    → gap ((L + w) * 6 + (0 + x) * 1) ((6 * L + u) * 1 + (0 + o) * 6) ≤ e * 6 * 1
difference_apart L x u o w e h = omega arith

module _ {x : Float} (hx : Finite binary64 x) (plus : under binary64 x ≡ 0)
    (most : over binary64 x ≤ 49 * 2 ^ 1074) where
  -- the quotient is at most 16 in size, and so within 2 ^ -50
  quotient : Near binary64 (div binary64 x six) (over binary64 x * 2 ^ 1074) (under binary64 x * 2 ^ 1074)
      (6 * 2 ^ 1074) (2 ^ 1024)
  unfolding bound six of_bits negative magnitude
  quotient =
      power_under (div_error hx six_finite (lit< tt)) 1024 (lit< tt)
      (rw plus (quotient_most (2 ^ 1074) (2 ^ 1078) (over binary64 x) most refl))

  quotient_apart : gap (over binary64 x + under binary64 (div binary64 x six) * 6)
      (under binary64 x + over binary64 (div binary64 x six) * 6) ≤ 2 ^ 1024 * 6
  unfolding apart
  quotient_apart = over_six (2 ^ 1074) _ _ _ _ (2 ^ 1024) (pow_pos 1074) quotient.within

  -- the difference is at most 16 in size too
  difference : Near binary64 (sub binary64 unit (div binary64 x six))
      (over binary64 unit + under binary64 (div binary64 x six))
      (under binary64 unit + over binary64 (div binary64 x six)) 1 (2 ^ 1024)
  unfolding bound
  difference =
      power_under (sub_error (unit_finite binary64) quotient.finite) 1024 (lit< tt)
      (rw (over_unit binary64, under_unit binary64)
      (difference_most (2 ^ 1074) (2 ^ 1078) (over binary64 x) _ _ (2 ^ 1024) most refl (lit≤ tt)
      (rw plus at quotient_apart)))

  pub two_terms_within : distance binary64 (pos (6 * 2 ^ 1074) -ℤ whole_of binary64 x) 6
      (sub binary64 unit (div binary64 x six)) ≤ 2 ^ 1025 * 6
  unfolding apart
  two_terms_within =
      let z = sub binary64 unit (div binary64 x six) in
      rw (distance_apart binary64 z 6 (sum_of (natural (6 * 2 ^ 1074)) (negated_of (whole_difference binary64 x))))
      (near_from difference (pow_pos 0) (6 * 2 ^ 1074 + under binary64 x) (0 + over binary64 x) 6 (2 ^ 1024)
      (rw (over_unit binary64, under_unit binary64)
      (difference_apart (2 ^ 1074) (over binary64 x) (under binary64 x) _ _ (2 ^ 1024) quotient_apart))).within

-- ---- the bound can be no smaller: a tie lies half a step away

-- 2 ^ 24 + 1 units, between 2 ^ 24 and 2 ^ 24 + 2, is delivered as 2 ^ 24
pub half_is_reached : 2 * distance binary32 (pos (2 ^ 24 + 1)) 1 (rounding binary32 (pos (2 ^ 24 + 1)) 1) ≡ 2 ^ 1 * 1
unfolding distance rounding round whole_of over under negative magnitude
half_is_reached = refl

-- and it is the exact size that counts: 2 ^ -126 - 2 ^ -150, which is (2 ^ 24 - 1) / 2 units, is delivered as the least
-- normal number, and 2 ^ 24 times the distance is over the exact size
pub delivered_size_would_not_do :
    let z = rounding binary32 (pos (2 ^ 24 - 1)) 2 in
    (magnitude binary32 z ≡ least_normal binary32) × (2 ^ 24 - 1 < 2 ^ 24 * distance binary32 (pos (2 ^ 24 - 1)) 2 z)
unfolding distance rounding round whole_of over under negative magnitude least_normal
delivered_size_would_not_do = (refl, lit< tt)

-- A sum of numbers that lie far under the overflow bound is finite: the sizes add up, and rounding carries none of them
-- past a power of two, which is a value of the format. In either format. Assumes nothing.
use mathlib.Core.Path.{◌≡◌, refl, sym, subst}
use mathlib.Core.Bool.{Bool, true, false}
use Prim.Native.Nat.{ℕ, suc, ◌-◌, ◌^◌, ◌≤◌, ◌<◌}
use native.Mathlib.Nat.{one-mul, le_trans, le_of_eq, lt_of_le_of_lt}
use native.Mathlib.Omega.{arith}
use lib.Dec.{lit<}
use lib.Pow.{pow_pos}
use lib.Ieee.{Float, Format, binary32, binary64, add, mul, neg}
use lib.Ieee.Scale.{overflow}
use Rattle.binary32.specs.Whole.{negative, magnitude, over, under}
use Rattle.binary32.proofs.Magnitude.{Finite, under_finite}
use Rattle.binary32.proofs.RoundedSize.{rounded_to, Short, rounded_short, rounded_mono, over_and_under}
use Rattle.binary32.proofs.RoundedSize.{over_positive, under_negative}
use Rattle.binary32.proofs.Rounded.{Rounded}
use Rattle.binary32.proofs.Operations.{add_rounded}
use Rattle.binary32.proofs.Products.{unit, one_times, minus_one_product_finite, minus_one_size}

-- x is finite, and at most 2 ^ k units in size
pub record Within (f : Format) (k : ℕ) (x : Float) : Type 0 where
  pub finite : Finite f x
  pub size : magnitude f x ≤ 2 ^ k

pub wider : {f : Format} {k : ℕ} {x : Float} → Within f k x → Within f (suc k) x
wider {k} h = record { finite = h.finite; size = omega (arith, h.size) }

-- ---- what is rounded from at most a power of two

power_short : (f : Format) (k : ℕ) → Short f (2 ^ k)
power_short binary32 k = record { digits = 1; shift = k; few = lit< tt; exact = sym (one-mul (2 ^ k)) }
power_short binary64 k = record { digits = 1; shift = k; few = lit< tt; exact = sym (one-mul (2 ^ k)) }

rounded_most : (f : Format) (a k : ℕ) → a ≤ 2 ^ k → 2 ^ k < overflow f → rounded_to f a 1 ≤ 2 ^ k
rounded_most f a k h less =
    le_trans (rounded_mono f a 1 (2 ^ k) 1 (pow_pos 0) (pow_pos 0) (omega (arith, h)))
    (le_of_eq (rounded_short (power_short f k) less))

rounded_within : {f : Format} {z : Float} {p n : ℕ} (k : ℕ) → Rounded f z p n 1 → p ≤ 2 ^ k → n ≤ 2 ^ k
    → 2 ^ k < overflow f → Within f k z
rounded_within {f} {z} {p} {n} k r hp hn less =
    let above : over f z ≤ 2 ^ k =
    subst (λ (a : ℕ). a ≤ 2 ^ k) (sym r.above) (rounded_most f (p - n) k (omega arith) less) in
    let below : under f z ≤ 2 ^ k =
    subst (λ (a : ℕ). a ≤ 2 ^ k) (sym r.below) (rounded_most f (n - p) k (omega arith) less) in
    let size = at_most (negative z) refl above below in
    record { finite = under_finite r.number (lt_of_le_of_lt size less); size = size }
  where
    at_most : (s : Bool) → negative z ≡ s → over f z ≤ 2 ^ k → under f z ≤ 2 ^ k → magnitude f z ≤ 2 ^ k
    at_most false s above below = subst (λ (a : ℕ). a ≤ 2 ^ k) (over_positive f z s) above
    at_most true s above below = subst (λ (a : ℕ). a ≤ 2 ^ k) (under_negative f z s) below

-- ---- a sum, and a product by 1 or -1

pub sum_within : {f : Format} {x y : Float} (k : ℕ) → Within f k x → Within f k y → 2 ^ suc k < overflow f
    → Within f (suc k) (add f x y)
sum_within {f} {x} {y} k hx hy less =
    rounded_within (suc k) (add_rounded hx.finite hy.finite)
    (omega (arith, hx.size, hy.size, over_and_under f x, over_and_under f y))
    (omega (arith, hx.size, hy.size, over_and_under f x, over_and_under f y)) less

pub one_within : {f : Format} {k : ℕ} {x : Float} → Within f k x → Within f k (mul f unit x)
one_within {f} {k} {x} h =
    subst (Within f k) (sym (one_times f x h.finite.fits)) h

pub minus_one_within : {f : Format} {k : ℕ} {x : Float} → Within f k x → Within f k (mul f (neg unit) x)
minus_one_within {f} {k} {x} h = record {
  finite = minus_one_product_finite h.finite;
  size = subst (λ (a : ℕ). a ≤ 2 ^ k) (sym (minus_one_size h.finite)) h.size;
}

-- The standard's bound: a fraction of the size of the bound or more rounds to the overflow bound, so to an infinity,
-- and one that is under it to its nearest size, which lies under the overflow bound. The bound lies halfway between the
-- largest number of the format and the overflow bound. In either format. Assumes nothing.
use mathlib.Core.Path.{◌≡◌, refl, sym, ap, ◌∙◌}
use mathlib.Core.Bool.{Bool, true, false, cond}
use Prim.Native.Nat.{ℕ, ◌+◌, ◌-◌, ◌*◌, ◌^◌, ◌≤◌, ◌<◌}
use native.Mathlib.Nat.{add-mul, mul-one, mul_assoc, mul_comm, mul_left_comm, mul-pos, mul-le-mul_right}
use native.Mathlib.Nat.{le_antisymm, le_trans, le_of_eq, lt_of_not-le, lt_of_le_of_lt}
use native.Mathlib.Omega.{arith}
use borrow.Author.Tests.{lt-ltb, ltb-true}
use lib.Dec.{ltb}
use lib.Pow.{pow_pos, pow-sub-lt}
use lib.Ieee.{Format, binary32, binary64, prec, emax, low, size, round}
use lib.Ieee.Nearest.{closest, closest_same, div_same}
use lib.Ieee.Order.{drop, kept}
use lib.Ieee.Scale.{overflow}
use Rattle.binary32.specs.Whole.{magnitude}
use Rattle.binary32.specs.Nearest.{bound}
use Rattle.binary32.proofs.RoundedSize.{limit, rounded_to, Short, round_signed, rounded_mono}
use Rattle.binary32.proofs.Values.{largest}
use Rattle.binary32.proofs.NearestSize.{gap, unbounded, unbounded_nearest}

-- ---- what a / c rounds to is its nearest size, cut off at the overflow bound

same_kept : (f : Format) (a c l : ℕ) → 0 < c → 0 < l
    → kept (prec f) (a * l) (c * l) * 2 ^ drop (prec f) (a * l) (c * l) ≡ kept (prec f) a c * 2 ^ drop (prec f) a c
same_kept f a c l C L =
    let p = prec f in
    let j = drop p a c in
    let k : drop p (a * l) (c * l) ≡ j =
    ap (λ (n : ℕ). size n - p) (div_same (a * l) (c * l) a c (mul-pos C L) C (simp (mul_assoc, mul_comm))) in
    ap (λ (n : ℕ). closest (a * l) (c * l * 2 ^ n) * 2 ^ n) k
    ∙ ap (λ (n : ℕ). n * 2 ^ j)
    (closest_same (a * l) (c * l * 2 ^ j) a (c * 2 ^ j) (mul-pos (mul-pos C L) (pow_pos j)) (mul-pos C (pow_pos j))
    (simp (mul_assoc, mul_left_comm)))

rounded_limit : (f : Format) (a c : ℕ) → 0 < c → rounded_to f a c ≡ limit f (unbounded f a c)
unfolding rounded_to unbounded
rounded_limit f a c C =
    (round_signed f false a (c * 2 ^ low f)).size ∙ ap (limit f) (same_kept f a c (2 ^ low f) C (pow_pos (low f)))

under_limit : (f : Format) (n : ℕ) → n < overflow f → limit f n ≡ n
unfolding limit
under_limit f n h = rw (lt-ltb n (overflow f) h)

limit_most : (f : Format) (n : ℕ) → limit f n ≤ overflow f
unfolding limit
limit_most f n = go (ltb n (overflow f)) refl
  where
    go : (b : Bool) → ltb n (overflow f) ≡ b → cond b n (overflow f) ≤ overflow f
    go true e = omega (arith, ltb-true n (overflow f) e)
    go false e = omega arith

-- ---- the bound, the largest number and the overflow bound

half : Format → ℕ
half f = 2 ^ (low f + emax f - prec f)

bound_half : (f : Format) → bound f + half f ≡ overflow f
unfolding bound half
bound_half binary32 = refl
bound_half binary64 = refl

largest_half : (f : Format) → largest f + half f ≡ bound f
unfolding largest bound half
largest_half binary32 = refl
largest_half binary64 = refl

bound_rounded : (f : Format) → rounded_to f (bound f) 1 ≡ overflow f
unfolding rounded_to bound magnitude round
bound_rounded binary32 = refl
bound_rounded binary64 = refl

-- ---- at the bound and beyond

pub beyond_bound : (f : Format) (a c : ℕ) → 0 < c → bound f * c ≤ a → rounded_to f a c ≡ overflow f
beyond_bound f a c C h =
    le_antisymm (le_trans (le_of_eq (rounded_limit f a c C)) (limit_most f (unbounded f a c)))
    (le_trans (le_of_eq (sym (bound_rounded f)))
    (rounded_mono f (bound f) 1 a c (pow_pos 0) C (le_trans h (le_of_eq (sym (mul-one a))))))

-- ---- and under it: the largest number would be nearer than the overflow bound or what lies over it

under_overflow : (f : Format) (a c : ℕ) → 0 < c → a < bound f * c → unbounded f a c < overflow f
unfolding largest half
under_overflow f a c C h =
    let n = unbounded f a c in
    let M = largest f in
    let most : Short f M =
    record { digits = 2 ^ prec f - 1; shift = 2 * emax f - 1; few = pow-sub-lt (prec f) (pow_pos 0); exact = refl } in
    let nearer : gap a (n * c) ≤ gap a (M * c) = (unbounded_nearest f a c C).nearest M most in
    let first : bound f * c + half f * c ≡ overflow f * c =
    sym (add-mul (bound f) (half f) c) ∙ ap (λ (x : ℕ). x * c) (bound_half f) in
    let second : M * c + half f * c ≡ bound f * c =
    sym (add-mul M (half f) c) ∙ ap (λ (x : ℕ). x * c) (largest_half f) in
    let some : 0 < half f * c = mul-pos (pow_pos (low f + emax f - prec f)) C in
    lt_of_not-le (λ (g : overflow f ≤ n).
    let over : overflow f * c ≤ n * c = mul-le-mul_right c g in
    let no : ⊥ = omega arith in
    no)

pub under_bound : (f : Format) (a c : ℕ) → 0 < c → a < bound f * c → rounded_to f a c ≡ unbounded f a c
under_bound f a c C h = rounded_limit f a c C ∙ under_limit f (unbounded f a c) (under_overflow f a c C h)

pub within_bound : (f : Format) (a c : ℕ) → 0 < c → a < bound f * c → rounded_to f a c < overflow f
within_bound f a c C h = lt_of_le_of_lt (le_of_eq (under_bound f a c C h)) (under_overflow f a c C h)

-- A rounding of w / c units, seen from zero toward w: it counts what the size of w / c rounds to ahead, and nothing
-- behind. And where its size is the nearest of the sizes, no number of the format is nearer to w / c, on either side of
-- zero. In either format. Assumes nothing.
use mathlib.Core.Path.{◌≡◌, sym, ap, ◌∙◌}
use mathlib.Core.Logic.{◌⊎◌, inl, inr, ⊎_elim}
use mathlib.Core.Bool.{Bool, true, false, cond}
use Prim.Native.Nat.{ℕ, ◌+◌, ◌-◌, ◌*◌, ◌≤◌, ◌<◌}
use native.Mathlib.Nat.{sub-zero, zero-sub, zero-mul, add-zero, le_antisymm, le_trans, le_of_eq, eq_of_mul-eq-mul_right}
use native.Mathlib.Omega.{arith}
use lib.IntN.{ℤ, nat_abs}
use lib.Ieee.{Float, Format}
use Rattle.binary32.specs.Whole.{magnitude}
use Rattle.binary32.specs.Nearest.{distance}
use Rattle.binary32.proofs.Magnitude.{Number}
use Rattle.binary32.proofs.RoundedSize.{rounded_to, rounded_nothing}
use Rattle.binary32.proofs.Rounded.{Rounded, by_difference}
use Rattle.binary32.proofs.Integers.{Difference, same_difference}
use Rattle.binary32.proofs.LastDigit.{last_digit}
use Rattle.binary32.proofs.NearestSize.{gap, NearestSize}
use Rattle.binary32.proofs.Sides.{side, own_side, ahead, behind, distance_sided, Sides, sides_size}

pub record Toward (f : Format) (z : Float) (w : ℤ) (c : ℕ) : Type 0 where
  pub number : Number f z
  pub there : ahead (side w) f z ≡ rounded_to f (nat_abs w) c
  pub back : behind (side w) f z ≡ 0

-- ---- it says what `Rounded` says

module _ (f : Format) (z : Float) (c : ℕ) (C : 0 < c) where
  all_of : (a : ℕ) → rounded_to f (a - 0) c ≡ rounded_to f a c
  all_of a = ap (λ (n : ℕ). rounded_to f n c) (sub-zero a)

  none_of : (a : ℕ) → rounded_to f (0 - a) c ≡ 0
  none_of a = ap (λ (n : ℕ). rounded_to f n c) (zero-sub a) ∙ rounded_nothing f c C

  seen : (s : Bool) (a : ℕ) → Rounded f z (cond s 0 a) (cond s a 0) c
      → (ahead s f z ≡ rounded_to f a c) × (behind s f z ≡ 0)
  unfolding ahead behind
  seen false a r = (r.above ∙ all_of a, r.below ∙ none_of a)
  seen true a r = (r.below ∙ all_of a, r.above ∙ none_of a)

  unseen : (s : Bool) (a : ℕ) → Number f z → ahead s f z ≡ rounded_to f a c → behind s f z ≡ 0
      → Rounded f z (cond s 0 a) (cond s a 0) c
  unfolding ahead behind
  unseen false a n o u = record { number = n; above = o ∙ sym (all_of a); below = u ∙ sym (none_of a) }
  unseen true a n o u = record { number = n; above = u ∙ sym (none_of a); below = o ∙ sym (all_of a) }

module _ {f : Format} {z : Float} {w : ℤ} {p n c : ℕ} (C : 0 < c) (d : Difference w p n) where
  pub toward : Rounded f z p n c → Toward f z w c
  toward r =
      let sides = seen f z c C (side w) (nat_abs w) (by_difference r _ _ (same_difference (own_side w) d)) in
      record { number = r.number; there = sides.0; back = sides.1 }

  pub rounded_toward : Toward f z w c → Rounded f z p n c
  rounded_toward t =
      by_difference (unseen f z c C (side w) (nat_abs w) t.number t.there t.back) p n
      (same_difference d (own_side w))

-- ---- its size and its distance

module _ {f : Format} {z : Float} {w : ℤ} {c : ℕ} (t : Toward f z w c) where
  pub toward_size : magnitude f z ≡ ahead (side w) f z
  toward_size =
      sym (sides_size (side w) f z) ∙ ap (λ (u : ℕ). ahead (side w) f z + u) t.back ∙ add-zero (ahead (side w) f z)

  pub toward_distance : distance f w c z ≡ gap (nat_abs w) (ahead (side w) f z * c)
  toward_distance =
      distance_sided f w c z ∙ ap (λ (n : ℕ). gap n (ahead (side w) f z * c))
      (ap (λ (u : ℕ). nat_abs w + u * c) t.back ∙ ap (λ (k : ℕ). nat_abs w + k) (zero-mul c) ∙ add-zero (nat_abs w))

-- ---- other numbers are no nearer to a / c than the nearest size n: o is what one counts ahead, u what it counts
-- behind

module _ {f : Format} {a c n o u : ℕ} (C : 0 < c) (N : NearestSize f a c n) (S : Sides f o u) where
  behind_farther : gap a (o * c) ≤ gap (a + u * c) (o * c)
  behind_farther =
      ⊎_elim (λ (e : o ≡ 0). rw (e, zero-mul c) (omega arith))
      (λ (e : u ≡ 0). rw (e, zero-mul c, add-zero a) (omega arith)) S.one

  pub farther : gap a (n * c) ≤ gap (a + u * c) (o * c)
  farther = le_trans (N.nearest o S.short) behind_farther

  -- what counts nothing ahead is as near only if it counts nothing behind either
  nothing_behind : gap (a + u * c) (o * c) ≡ gap a (n * c) → (o ≡ 0) ⊎ (u ≡ 0) → u ≡ 0
  nothing_behind e (inl i) =
      let none : u * c ≡ 0 * c = omega (arith, N.nearest o S.short, ap (λ (k : ℕ). k * c) i, zero-mul c) in
      eq_of_mul-eq-mul_right c C u 0 none
  nothing_behind e (inr i) = i

  -- and where another is as near, its last digit is odd and that of n even
  pub record Tied : Type 0 where
    pub none : u ≡ 0
    pub even : last_digit f n ≡ 0
    pub odd : last_digit f o ≡ 1

  pub tied : gap (a + u * c) (o * c) ≡ gap a (n * c) → (o ≡ n → u ≡ 0 → ⊥) → Tied
  tied e differ =
      let none = nothing_behind e S.one in
      let level : gap a (o * c) ≡ gap a (n * c) =
      le_antisymm (le_trans behind_farther (le_of_eq e)) (N.nearest o S.short) in
      let digits = N.tie o S.short level (λ i. differ i none) in
      record { none = none; even = digits.0; odd = digits.1 }

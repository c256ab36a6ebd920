-- A number seen from zero toward an exact result: what it counts on the result's side, `ahead`, and what it counts on
-- the other, `behind`; one of the two is 0. So a distance is one of natural numbers, and what holds of results over
-- zero and of numbers over zero holds by the same words under it. Assumes nothing.
use mathlib.Core.Path.{◌≡◌, refl, sym, ap, ap₂, ◌∙◌, subst}
use mathlib.Core.Logic.{◌⊎◌, inl, inr, ⊎_elim}
use mathlib.Core.Bool.{Bool, true, false, cond}
use Prim.Native.Nat.{ℕ, suc, ◌+◌, ◌-◌, ◌*◌, ◌<◌, zero-le}
use native.Mathlib.Nat.{add-zero, zero-add, add_comm}
use native.Mathlib.Omega.{arith}
use borrow.Author.Tests.{le-ltb}
use lib.IntN.{ℤ, pos, negsuc, nat_abs, sub_ℕ}
use lib.Signed.{lt_z}
use lib.Ieee.{Float, Format}
use Rattle.binary32.specs.Whole.{negative, magnitude, over, under, whole_of}
use Rattle.binary32.specs.Nearest.{distance}
use Rattle.binary32.proofs.Magnitude.{Finite}
use Rattle.binary32.proofs.RoundedSize.{Short, nothing_short, short, under_positive}
use Rattle.binary32.proofs.RoundedSize.{over_negative, over_and_under}
use Rattle.binary32.proofs.Integers.{Difference, whole_difference, same_difference}
use Rattle.binary32.proofs.Integers.{sum_of, negated_of, times_of, size_of}
use Rattle.binary32.proofs.NearestSize.{gap}

-- ---- the side of zero on which an exact result lies

abbrev pub side : ℤ → Bool
side w = lt_z w (pos 0)

pub own_side : (w : ℤ) → Difference w (cond (side w) 0 (nat_abs w)) (cond (side w) (nat_abs w) 0)
own_side (pos a) =
    subst (λ (s : Bool). Difference (pos a) (cond s 0 a) (cond s a 0)) (sym (le-ltb a 0 zero-le))
    (record { is = sym (add-zero a) })
own_side (negsuc a) = record { is = sym (zero-add (suc a)) }

-- ---- the two sides of a number

unfoldable pub ahead : Bool → Format → Float → ℕ
ahead s f x = cond s (under f x) (over f x)

unfoldable pub behind : Bool → Format → Float → ℕ
behind s f x = cond s (over f x) (under f x)

pub distance_sided : (f : Format) (w : ℤ) (c : ℕ) (y : Float)
    → distance f w c y ≡ gap (nat_abs w + behind (side w) f y * c) (ahead (side w) f y * c)
unfolding distance ahead behind
distance_sided f w c y =
    size_of (sum_of (own_side w) (negated_of (times_of (whole_difference f y) c))) ∙ go (side w) (nat_abs w)
  where
    go : (s : Bool) (a : ℕ)
        → gap (cond s 0 a + under f y * c) (cond s a 0 + over f y * c) ≡ gap (a + behind s f y * c) (ahead s f y * c)
    go false a = ap (λ (n : ℕ). gap (a + under f y * c) n) (zero-add (over f y * c))
    go true a =
        ap (λ (n : ℕ). gap n (a + over f y * c)) (zero-add (under f y * c))
        ∙ add_comm (under f y * c - (a + over f y * c)) (a + over f y * c - under f y * c)

-- together they are the size, and one of them is 0
pub record Sides (f : Format) (o u : ℕ) : Type 0 where
  pub short : Short f o
  pub one : (o ≡ 0) ⊎ (u ≡ 0)

pub sides_size : (s : Bool) (f : Format) (x : Float) → ahead s f x + behind s f x ≡ magnitude f x
unfolding ahead behind
sides_size false f x = over_and_under f x
sides_size true f x = add_comm (under f x) (over f x) ∙ over_and_under f x

one_side : (f : Format) (x : Float) → (over f x ≡ 0) ⊎ (under f x ≡ 0)
one_side f x = go (negative x) refl
  where
    go : (s : Bool) → negative x ≡ s → (over f x ≡ 0) ⊎ (under f x ≡ 0)
    go false e = inr (under_positive f x e)
    go true e = inl (over_negative f x e)

-- what counts something on one side has that side's sign
pub side_sign : (s : Bool) (f : Format) (x : Float) → 0 < ahead s f x → negative x ≡ s
unfolding ahead
side_sign s f x h = go s (negative x) refl h
  where
    go : (s t : Bool) → negative x ≡ t → 0 < cond s (under f x) (over f x) → t ≡ s
    go false false e h = refl
    go true true e h = refl
    go false true e h = let no : ⊥ = omega (arith, over_negative f x e) in absurd no
    go true false e h = let no : ⊥ = omega (arith, under_positive f x e) in absurd no

either_side : (s : Bool) (f : Format) (x : Float) → (ahead s f x ≡ 0) ⊎ (behind s f x ≡ 0)
unfolding ahead behind
either_side false f x = one_side f x
either_side true f x = ⊎_elim inr inl (one_side f x)

pub sides : {f : Format} {x : Float} (s : Bool) → Finite f x → Sides f (ahead s f x) (behind s f x)
sides {f} {x} s h = record { short = go (either_side s f x); one = either_side s f x }
  where
    go : (ahead s f x ≡ 0) ⊎ (behind s f x ≡ 0) → Short f (ahead s f x)
    go (inl e) = rw e (nothing_short f)
    go (inr e) = let is : ahead s f x ≡ magnitude f x = omega (arith, sides_size s f x) in rw is (short h)

-- two numbers with the same sides are the same whole number, and the other way round
pub whole_of_sides : (s : Bool) (f : Format) (x y : Float) → ahead s f x ≡ ahead s f y → behind s f x ≡ behind s f y
    → whole_of f x ≡ whole_of f y
unfolding ahead behind whole_of
whole_of_sides false f x y o u = ap₂ sub_ℕ o u
whole_of_sides true f x y o u = ap₂ sub_ℕ u o

one_pair : (o u p q : ℕ) → (o ≡ 0) ⊎ (u ≡ 0) → (p ≡ 0) ⊎ (q ≡ 0) → o + q ≡ p + u → (o ≡ p) × (u ≡ q)
one_pair o u p q (inl a) (inl b) e = omega arith
one_pair o u p q (inl a) (inr b) e = omega arith
one_pair o u p q (inr a) (inl b) e = omega arith
one_pair o u p q (inr a) (inr b) e = omega arith

pub sides_of_whole : (s : Bool) (f : Format) (x y : Float) → whole_of f x ≡ whole_of f y
    → (ahead s f x ≡ ahead s f y) × (behind s f x ≡ behind s f y)
unfolding ahead behind
sides_of_whole s f x y e =
    let pair = one_pair (over f x) (under f x) (over f y) (under f y) (one_side f x) (one_side f y)
    (same_difference (whole_difference f x)
    (subst (λ (z : ℤ). Difference z (over f y) (under f y)) (sym e) (whole_difference f y))) in
    go s pair
  where
    go : (s : Bool) → (over f x ≡ over f y) × (under f x ≡ under f y)
        → (ahead s f x ≡ ahead s f y) × (behind s f x ≡ behind s f y)
    go false p = p
    go true p = (p.1, p.0)

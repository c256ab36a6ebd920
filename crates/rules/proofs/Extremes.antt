-- The largest and the least of some numbers. The walk only ever holds one of them, so that what holds of each holds of
-- these two; and the largest of numbers, none a NaN, is +infinity where one of them is. To put one more number first is
-- to take the larger of it and their largest. Assumes nothing.
use mathlib.Core.Path.{◌≡◌, refl, sym, ap, ◌∙◌}
use mathlib.Core.Bool.{Bool, true, false, not}
use mathlib.Core.List.{List, [], ◌∷◌}
use Prim.Native.Nat.{ℕ, zero, suc}
use lib.Dec.{T}
use lib.ListN.{get_or}
use lib.Ieee.{Float, nan, inf, fin, Format, lt, is_nan}
use Rattle.binary32.proofs.Magnitude.{Number}
use Rattle.binary32.proofs.Comparison.{less_trans, le_trans, not_under, not_over}
use Rattle.number.proofs.Choice.{by_test}
use Rattle.rules.specs.Extremes.{larger, smaller, walked, best, largest, least}
use Rattle.general.specs.Each.{Each}

-- ---- what holds of each holds of the one that is held

module _ (P : Float → Type 0) where
  larger_is : (held x : Float) → P held → P x → P (larger held x)
  unfolding larger
  larger_is held x p q = by_test P (lt held x) (λ e. q) (λ e. p)

  smaller_is : (held x : Float) → P held → P x → P (smaller held x)
  unfolding smaller
  smaller_is held x p q = by_test P (lt x held) (λ e. q) (λ e. p)

  module _ (better : Float → Float → Float) (picks : (held x : Float) → P held → P x → P (better held x)) where
    walked_is : (held : Float) (xs : List Float) → P held → Each P xs → P (walked better held xs)
    unfolding walked
    walked_is held [] p ps = p
    walked_is held (x ∷ xs) p ps = walked_is (better held x) xs (picks held x p ps.0) ps.1

    best_is : (x : Float) (xs : List Float) → Each P (x ∷ xs) → P (best better (x ∷ xs))
    unfolding best
    best_is x xs ps = walked_is x xs ps.0 ps.1

  pub largest_is : (x : Float) (xs : List Float) → Each P (x ∷ xs) → P (largest (x ∷ xs))
  largest_is = best_is larger larger_is

  pub least_is : (x : Float) (xs : List Float) → Each P (x ∷ xs) → P (least (x ∷ xs))
  least_is = best_is smaller smaller_is

-- ---- +infinity among them

abbrev pub NoNan : Float → Type 0
NoNan x = T (not (is_nan x))

-- +infinity takes the place of every number
infinity_taken : (held : Float) → NoNan held → larger held (inf false) ≡ inf false
unfolding is_nan larger lt
infinity_taken nan n = absurd n
infinity_taken (inf true) n = refl
infinity_taken (inf false) n = refl
infinity_taken (fin s m e) n = refl

-- and nothing takes the place of it
infinity_kept : (x : Float) → larger (inf false) x ≡ inf false
unfolding larger lt
infinity_kept nan = refl
infinity_kept (inf s) = refl
infinity_kept (fin s m e) = refl

walk_from_infinity : (xs : List Float) → walked larger (inf false) xs ≡ inf false
unfolding walked
walk_from_infinity [] = refl
walk_from_infinity (x ∷ xs) = ap (λ (h : Float). walked larger h xs) (infinity_kept x) ∙ walk_from_infinity xs

walk_to_infinity : (held : Float) (xs : List Float) → NoNan held → Each NoNan xs → (i : ℕ) → get_or xs i nan ≡ inf false
    → walked larger held xs ≡ inf false
unfolding walked
walk_to_infinity held [] n w i e = cc
walk_to_infinity held (x ∷ xs) n w zero e =
    ap (λ (h : Float). walked larger h xs) (ap (larger held) e ∙ infinity_taken held n) ∙ walk_from_infinity xs
walk_to_infinity held (x ∷ xs) n w (suc i) e =
    walk_to_infinity (larger held x) xs (larger_is NoNan held x n w.0) w.1 i e

pub largest_infinite : (xs : List Float) → Each NoNan xs → (i : ℕ) → get_or xs i nan ≡ inf false → largest xs
    ≡ inf false
unfolding best
largest_infinite [] w i e = cc
largest_infinite (x ∷ xs) w zero e = ap (λ (h : Float). walked larger h xs) e ∙ walk_from_infinity xs
largest_infinite (x ∷ xs) w (suc i) e = walk_to_infinity x xs w.0 w.1 i e

-- ---- one more number, put first

module _ {f : Format} where
  -- of three numbers it does not matter which two are compared first
  larger_of_three : {a b c : Float} → Number f a → Number f b → Number f c
      → larger a (larger b c) ≡ larger (larger a b) c
  unfolding larger
  larger_of_three {a} {b} {c} na nb nc = go (lt a b) (lt b c) refl refl
    where
      go : (p q : Bool) → lt a b ≡ p → lt b c ≡ q → larger a (larger b c) ≡ larger (larger a b) c
      go true true e g = rw (e, g, less_trans na nb nc e g)
      go true false e g = rw (e, g, e)
      go false true e g = rw (e, g)
      go false false e g = rw (e, g, e, not_over nc na (le_trans nc nb na (not_under nb nc g) (not_under na nb e)))

  -- so a number put before the one held is compared as well once the walk is over
  walk_from_larger : {a held : Float} (xs : List Float) → Number f a → Number f held → Each (Number f) xs
      → walked larger (larger a held) xs ≡ larger a (walked larger held xs)
  unfolding walked
  walk_from_larger [] na nh ns = refl
  walk_from_larger {a} {held} (x ∷ xs) na nh ns =
      ap (λ (h : Float). walked larger h xs) (sym (larger_of_three na nh ns.0))
      ∙ walk_from_larger {held = larger held x} xs na (larger_is (Number f) held x nh ns.0) ns.1

  -- the largest with one more first is the larger of the two
  pub largest_with_first : {a : Float} (x : Float) (xs : List Float) → Number f a → Each (Number f) (x ∷ xs)
      → largest (a ∷ x ∷ xs) ≡ larger a (largest (x ∷ xs))
  unfolding best walked
  largest_with_first x xs na ns = walk_from_larger xs na ns.0 ns.1

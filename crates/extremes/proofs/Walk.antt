-- The walk over numbers, which is what `reduce` makes of a step. Assumes nothing.
use mathlib.Core.Path.{◌≡◌, refl, sym, ap, ◌∙◌}
use mathlib.Core.List.{List, [], ◌∷◌}
use native.Mathlib.Omega.{arith}
use lib.ListN.{length}
use lib.Ieee.{Float}
use denote.Param.Members.{Mut}
use Rattle.std.specs.declared.option.Option.{Option}
use Rattle.std.specs.declared.option.Option.TheVariants.{Some, None}
use Rattle.std.specs.Iterator.{ActsAsOnTwo}
use Rattle.std.specs.Iterator.Runs.{Run, IsReduceRun}
use Rattle.std.specs.List.{fold}
use Rattle.std.specs.Option.{MatchOption, unwrap_or}
use Rattle.binary32.specs.Arithmetic.{0f}
use Rattle.rules.specs.Extremes.{walked, best}

module _ (better : Float → Float → Float) where
  walk_folds : (held : Float) (xs : List Float) → fold better held xs ≡ walked better held xs
  unfolding walked
  walk_folds held [] = refl
  walk_folds held (x ∷ xs) = walk_folds (better held x) xs

  pub best_of_none : (xs : List Float) → length xs ≡ 0 → 0f ≡ best better xs
  unfolding best
  best_of_none [] h = refl
  best_of_none (x ∷ xs) h = let no : ⊥ = omega arith in absurd no

  best_of_some : (x : Float) (xs : List Float) → fold better x xs ≡ best better (x ∷ xs)
  unfolding best
  best_of_some x xs = walk_folds x xs

  -- what a whole run of `reduce` gives, or +0 where it had no number, is the best of what it ran over
  module _ {S F : Type 0} {steps : S → Option Float → S → Type 0} (g : Mut F (Float × (Float × Unit {0})) Float)
      (f : F) where
    pub reduced_is_best : ActsAsOnTwo g f better → (p : Run steps) (xs : List Float) → p.items ≡ xs
        → (r : Option Float) → MatchOption r (p.len ≡ 0) (IsReduceRun p g f) → unwrap_or r 0f ≡ best better xs
    reduced_is_best acts p xs is None h = best_of_none xs (omega (arith, p.long, ap length is))
    reduced_is_best acts p xs is (Some y) (some, (x, rest, items, folds)) =
        folds better acts ∙ best_of_some x rest ∙ ap (best better) (sym items ∙ is)

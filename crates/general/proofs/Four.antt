-- A list of four numbers is its four numbers, so that what is defined on lists computes on an array of four; and of
-- three of anything. Assumes nothing.
use mathlib.Core.Path.{◌≡◌, refl}
use mathlib.Core.List.{List, [], ◌∷◌}
use native.Mathlib.Omega.{arith}
use lib.ListN.{length, get_or}
use lib.Ieee.{Float, nan}

pub four : (m : List Float) → length m ≡ 4 → m ≡ get_or m 0 nan ∷ get_or m 1 nan ∷ get_or m 2 nan ∷ get_or m 3 nan ∷ []
four (a ∷ b ∷ c ∷ d ∷ []) h = refl
four [] h = let no : ⊥ = omega arith in absurd no
four (a ∷ []) h = let no : ⊥ = omega arith in absurd no
four (a ∷ b ∷ []) h = let no : ⊥ = omega arith in absurd no
four (a ∷ b ∷ c ∷ []) h = let no : ⊥ = omega arith in absurd no
four (a ∷ b ∷ c ∷ d ∷ e ∷ m) h = let no : ⊥ = omega arith in absurd no

pub three : {A : Type 0} (d : A) (m : List A) → length m ≡ 3 → m ≡ get_or m 0 d ∷ get_or m 1 d ∷ get_or m 2 d ∷ []
three d (a ∷ b ∷ c ∷ []) h = refl
three d [] h = let no : ⊥ = omega arith in absurd no
three d (a ∷ []) h = let no : ⊥ = omega arith in absurd no
three d (a ∷ b ∷ []) h = let no : ⊥ = omega arith in absurd no
three d (a ∷ b ∷ c ∷ e ∷ m) h = let no : ⊥ = omega arith in absurd no

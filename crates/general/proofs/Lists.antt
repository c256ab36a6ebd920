-- Lists: what holds of each, through a map; what stands at a place of a list, and of a mapped one; and the first part
-- of a mapped list. Assumes nothing.
use mathlib.Core.Path.{◌≡◌, refl, ap₂}
use mathlib.Core.Bool.{not}
use mathlib.Core.List.{List, [], ◌∷◌, ◌++◌, map}
use Prim.Native.Nat.{ℕ, zero, suc, ◌<◌}
use native.Mathlib.Omega.{arith}
use lib.Dec.{T}
use lib.ListN.{length, get_or, take}
use lib.Ieee.{Float, nan, binary32, fits, is_nan}
use lib.Ieee.Fits.{nan-fits}
use Rattle.general.specs.Each.{Each}

module _ {A : Type 0} where
  -- ---- what holds of each, through a map

  -- a property of every value of g holds of each of a mapped list
  pub each_mapped : {B : Type 0} (P : B → Type 0) (g : A → B) → ((a : A) → P (g a)) → (l : List A) → Each P (map g l)
  each_mapped P g k [] = tt
  each_mapped P g k (a ∷ l) = (k a, each_mapped P g k l)

  -- what holds of each of a mapped list holds of what each was made from
  pub each_of_map : {B : Type 0} (P : B → Type 0) (g : A → B) (l : List A) → Each P (map g l) → Each (λ a. P (g a)) l
  each_of_map P g [] h = tt
  each_of_map P g (a ∷ l) h = (h.0, each_of_map P g l h.1)

  -- what is the same of every value is the same of all of a list
  pub map_same : {B : Type 0} {f g : A → B} → ((a : A) → f a ≡ g a) → (l : List A) → map f l ≡ map g l
  map_same h [] = refl
  map_same h (a ∷ l) = ap₂ ◌∷◌ (h a) (map_same h l)

  -- where P holds of each, what P gives of one holds of each: of a mapped value, and of two that are equal
  module _ (P : A → Type 0) where
    pub each_map : {B : Type 0} (Q : B → Type 0) (g : A → B) → ((a : A) → P a → Q (g a)) → (l : List A) → Each P l
        → Each Q (map g l)
    each_map Q g k [] h = tt
    each_map Q g k (a ∷ l) h = (k a h.0, each_map Q g k l h.1)

    pub each_same : {B : Type 0} (f g : A → B) → ((a : A) → P a → f a ≡ g a) → (l : List A) → Each P l
        → map f l ≡ map g l
    each_same f g k [] h = refl
    each_same f g k (a ∷ l) h = ap₂ ◌∷◌ (k a h.0) (each_same f g k l h.1)

  -- ---- what stands at a place

  pub each_at : (P : A → Type 0) (d : A) (l : List A) → Each P l → (i : ℕ) → i < length l → P (get_or l i d)
  each_at P d [] h i s = let no : ⊥ = omega arith in absurd no
  each_at P d (a ∷ l) h zero s = h.0
  each_at P d (a ∷ l) h (suc i) s = each_at P d l h.1 i (omega arith)

  pub map_at : {B : Type 0} (g : A → B) (d : A) (e : B) (l : List A) (i : ℕ) → i < length l
      → get_or (map g l) i e ≡ g (get_or l i d)
  map_at g d e [] i s = let no : ⊥ = omega arith in absurd no
  map_at g d e (a ∷ l) zero s = refl
  map_at g d e (a ∷ l) (suc i) s = map_at g d e l i (omega arith)

  -- the first part of a mapped list is the first part, mapped
  pub take_mapped : {B : Type 0} (g : A → B) (l m : List A) → take (length l) (map g (l ++ m)) ≡ map g l
  take_mapped g [] m = refl
  take_mapped g (a ∷ l) m = ap₂ ◌∷◌ refl (take_mapped g l m)

  -- at every index stands a number that fits, a NaN past the end
  pub map_fits : (g : A → Float) → ((a : A) → T (fits binary32 (g a))) → (l : List A) (k : ℕ)
      → T (fits binary32 (get_or (map g l) k nan))
  map_fits g h [] k = nan-fits binary32
  map_fits g h (a ∷ l) zero = h a
  map_fits g h (a ∷ l) (suc k) = map_fits g h l k

-- a place at which a number stands, and not the NaN past the end, is one of the list's
pub number_place : (xs : List Float) (i : ℕ) → T (not (is_nan (get_or xs i nan))) → i < length xs
unfolding is_nan
number_place [] i n = absurd n
number_place (x ∷ xs) zero n = omega arith
number_place (x ∷ xs) (suc i) n = let s = number_place xs i n in omega arith

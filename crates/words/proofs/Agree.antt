-- The library's equality of two runs is the one of `specs/Words.antt`. Assumes nothing.
use mathlib.Core.Path.{◌≡◌, refl, sym}
use mathlib.Core.Bool.{◌&&◌, and-true}
use mathlib.Core.List.{List, [], ◌∷◌}
use Prim.Native.Nat.{ℕ, zero, suc}
use native.Mathlib.Omega.{arith}
use lib.Dec.{eqb}
use lib.ListN.{length}
use lib.Pointwise.{pointwise}
use Rattle.std.proofs.Math.Bool.{and_assoc}
use Rattle.words.specs.Words.{agree}

-- the first words agree, and then those after them
agree_cons : (x y : ℕ) (a b : List ℕ) (k : ℕ) → agree (suc k) (x ∷ a) (y ∷ b) ≡ eqb x y && agree k a b
unfolding agree
agree_cons x y a b zero = sym (and-true (eqb x y))
agree_cons x y a b (suc k) = rw (agree_cons x y a b k, and_assoc)

pub agree_pointwise : (a b : List ℕ) → length a ≡ length b → pointwise eqb a b ≡ agree (length a) a b
unfolding agree
agree_pointwise [] [] h = refl
agree_pointwise [] (y ∷ b) h = absurd (omega arith)
agree_pointwise (x ∷ a) [] h = absurd (omega arith)
agree_pointwise (x ∷ a) (y ∷ b) h = rw (agree_cons x y a b (length a), agree_pointwise a b (omega arith))

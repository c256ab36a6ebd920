-- The forms of Rust that its mixers are written in, so that a line of the Rust and its line here can be read side by
-- side. An array is the list of its elements; a variable that changes is a name that is given anew; `let x = e;` is
-- `let x = e in`. The Rust's lines are quoted with their numbers in its file. Definitions only.
use Rattle.std.specs.Prelude.{Bool, List, [], ◌∷◌, ℕ, zero, suc, get_or, Float}
use Rattle.std.specs.Float.{nan}
use Rattle.std.specs.Float.Ieee.{lt}

infix 55 ◌<f◌ ◌>f◌
infixl 80 ◌!◌ ◌!!◌
-- `x < y` and `x > y`
abbrev pub ◌<f◌ : Float → Float → Bool
x <f y = lt x y

abbrev pub ◌>f◌ : Float → Float → Bool
x >f y = lt y x

-- `xs[i]` of an array of floats, and `rows[i]` of an array of rows. (Past an array's end the Rust would stop; no line
-- here reads there.)
abbrev pub ◌!◌ : List Float → ℕ → Float
xs ! i = get_or xs i nan

abbrev pub ◌!!◌ : List (List Float) → ℕ → List Float
rows !! i = get_or rows i []

-- `for i in 0..n { .. }`: the body takes i and what its variables hold, and gives what they hold afterwards
abbrev pub for_from : {S : Type 0} → ℕ → ℕ → (ℕ → S → S) → S → S
for_from zero i body s = s
for_from (suc n) i body s = for_from n (suc i) body (body i s)

abbrev pub for_up_to : {S : Type 0} → ℕ → (ℕ → S → S) → S → S
for_up_to n body s = for_from n 0 body s

-- `for x in xs { .. }`, the elements in order
abbrev pub for_each : {A S : Type 0} → List A → (A → S → S) → S → S
for_each [] body s = s
for_each (x ∷ xs) body s = for_each xs body (body x s)

-- `for (x, y) in xs.iter_mut().zip(ys.iter()) { *x = g(x, y) }`: as far as the shorter goes, the others as they were
abbrev pub zip_into : {A B : Type 0} → (A → B → A) → List A → List B → List A
zip_into g [] ys = []
zip_into g (x ∷ xs) [] = x ∷ xs
zip_into g (x ∷ xs) (y ∷ ys) = g x y ∷ zip_into g xs ys

-- `xs.iter().zip(ys.iter())`
abbrev pub zip : {A B : Type 0} → List A → List B → List (A × B)
zip [] ys = []
zip (x ∷ xs) [] = []
zip (x ∷ xs) (y ∷ ys) = (x, y) ∷ zip xs ys

-- What the Rust's loops come to: a loop that fills an array of four by the rows of the quad is a map over the rows, one
-- that fills an array from the start fills it whole, and two loops whose bodies are the same are the same. Assumes
-- nothing.
use mathlib.Core.Path.{◌≡◌, refl, sym, ap, ◌∙◌}
use mathlib.Core.Bool.{Bool, true, false, cond}
use mathlib.Core.List.{List, [], ◌∷◌, map}
use Prim.Native.Nat.{ℕ, zero, suc, ◌+◌}
use native.Mathlib.Numerals.{add-one}
use native.Mathlib.Omega.{arith}
use lib.ListN.{length, get_or, set, replicate, length-map, length-replicate}
use lib.Ieee.{Float}
use Rattle.general.proofs.Four.{four}
use Rattle.general.proofs.Filled.{filled, fill, filled_all}
use Rattle.binary32.specs.Arithmetic.{0f}
use Rattle.rules.specs.Rows.{Row, quad_rows}
use Rattle.rust_text.specs.Forms.{◌!◌, ◌!!◌, for_from, for_up_to, zip_into}
use Rattle.rust_text.specs.State.{MIXER_X}

-- the rows are document 01's
pub rows_are : MIXER_X ≡ quad_rows
unfolding MIXER_X quad_rows
rows_are = refl

-- four motors filled by the quad's rows
pub by_rows : (g : Row → Float) → for_up_to 4 (λ i m. set m i (g (MIXER_X !! i))) (replicate 4 0f) ≡ map g quad_rows
unfolding MIXER_X quad_rows
by_rows g = refl

-- and four filled by four numbers
pub by_places : (h : Float → Float) (d : List Float) → length d ≡ 4
    → for_up_to 4 (λ i m. set m i (h (d ! i))) (replicate 4 0f) ≡ map h d
by_places h d e = ap (map h) (sym (four d e))

-- equal bodies
pub same_body : {S : Type 0} (f g : ℕ → S → S) → ((i : ℕ) (s : S) → f i s ≡ g i s)
    → (n i : ℕ) (s : S) → for_from n i f s ≡ for_from n i g s
same_body f g h zero i s = refl
same_body f g h (suc n) i s = ap (for_from n (suc i) f) (h i s) ∙ same_body f g h n (suc i) (g i s)

-- what is put where it stands already changes nothing
set_same : (m : List Float) (i : ℕ) → set m i (m ! i) ≡ m
set_same [] i = refl
set_same (x ∷ m) zero = refl
set_same (x ∷ m) (suc i) = ap (λ (l : List Float). x ∷ l) (set_same m i)

-- so an element that is set only where a test holds is always set, to what it was where the test fails
pub set_if : (t : Bool) (m : List Float) (i : ℕ) (v : Float) → cond t (set m i v) m ≡ set m i (cond t v (m ! i))
set_if true m i v = refl
set_if false m i v = sym (set_same m i)

-- an array that is filled from the start, place by place
filled_from : {A : Type 0} (before after : List A) (d : A) → length after ≡ length before
    → (n i : ℕ) → i + n ≡ length before → (now : List A) → now ≡ filled before after i
    → for_from n i (λ k s. set s k (get_or after k d)) now ≡ after
filled_from before after d same zero i e now is = is ∙ filled_all before after i (omega arith) (omega arith)
filled_from before after d same (suc n) i e now is =
    filled_from before after d same n (suc i) (omega arith) (set now i (get_or after i d))
    (fill before after now i d same (omega arith) is refl ∙ ap (filled before after) (add-one i))

-- what stands at any place of a mapped list
map_past : (g : Row → Float) (rows : List Row) (i : ℕ) → get_or (map g rows) i (g []) ≡ g (rows !! i)
map_past g [] i = refl
map_past g (row ∷ rows) zero = refl
map_past g (row ∷ rows) (suc i) = map_past g rows i

-- a place for each row, filled by the rows
pub by_any_rows : (g : Row → Float) (rows : List Row)
    → for_up_to (length rows) (λ i m. set m i (g (rows !! i))) (replicate (length rows) 0f) ≡ map g rows
by_any_rows g rows =
    let n = length rows in
    let many = length-replicate n 0f in
    same_body (λ i m. set m i (g (rows !! i))) (λ i m. set m i (get_or (map g rows) i (g [])))
    (λ i m. ap (set m i) (sym (map_past g rows i))) n 0 (replicate n 0f)
    ∙ filled_from (replicate n 0f) (map g rows) (g []) (length-map rows g ∙ sym many) n 0 (omega (arith, many))
    (replicate n 0f) refl

-- an array that is overwritten from one of its length is made of that
pub overwritten : {A B : Type 0} (g : B → A) (xs : List A) (ys : List B) → length xs ≡ length ys
    → zip_into (λ x y. g y) xs ys ≡ map g ys
overwritten g [] [] e = refl
overwritten g (x ∷ xs) (y ∷ ys) e = ap (λ (l : List _). g y ∷ l) (overwritten g xs ys (omega arith))
overwritten g [] (y ∷ ys) e = let no : ⊥ = omega arith in absurd no
overwritten g (x ∷ xs) [] e = let no : ⊥ = omega arith in absurd no

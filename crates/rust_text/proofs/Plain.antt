-- The Rust's `mix` is document 01's plain. Assumes nothing.
use mathlib.Core.Path.{◌≡◌, refl, ap, ap₂, ◌∙◌}
use mathlib.Core.Bool.{Bool, true, false, not, ◌||◌, cond}
use mathlib.Core.List.{List, [], ◌∷◌, map}
use lib.Ieee.{Float, lt}
use lib.Ieee.Scale.{finite}
use Rattle.binary32.specs.Arithmetic.{◌-f◌, 0f, 1f}
use Rattle.number.specs.Treat.{treated, clamped, floor_clamp}
use Rattle.rules.specs.Rows.{quad_rows}
use Rattle.rules.specs.Command.{roll, pitch, yaw}
use Rattle.rules.specs.Extremes.{larger, walked, best}
use Rattle.rules.specs.Plain.{raw_sum, raw_sums, lowered_by, lowered, lower_limited, plain_motors}
use Rattle.rust_text.specs.Forms.{◌>f◌, for_each, ◌!◌}
use Rattle.rust_text.specs.State.{Quad, answered, store_motors}
use Rattle.rust_text.specs.Plain.{sums, largest_of, excess_taken, clipped, mix}
use Rattle.rust_text.proofs.Numbers.{sanitise_is}
use Rattle.rust_text.proofs.Loops.{by_rows}

sums_are : (t r p y : Float) → sums t r p y ≡ map (raw_sum t r p y) quad_rows
unfolding sums raw_sum
sums_are t r p y = by_rows (λ row. raw_sum t r p y row)

-- ---- the largest, and what is over 1 taken from all

walked_larger : (held : Float) (xs : List Float)
    → for_each xs (λ v max. cond (v >f max) v max) held ≡ walked larger held xs
unfolding walked larger
walked_larger held [] = refl
walked_larger held (x ∷ xs) = walked_larger (larger held x) xs

-- all or none of them mapped
mapped_if : (b : Bool) (f : Float → Float) (m : List Float) → cond b (map f m) m ≡ map (λ x. cond b (f x) x) m
mapped_if true f m = refl
mapped_if false f [] = refl
mapped_if false f (x ∷ m) = ap (λ (l : List Float). x ∷ l) (mapped_if false f m)

pub excess_taken_lem : (m : List Float) → excess_taken m ≡ lowered m
unfolding excess_taken largest_of lowered lowered_by best
excess_taken_lem [] = mapped_if (lt 1f (largest_of [])) (λ v. v -f (largest_of [] -f 1f)) []
excess_taken_lem (x ∷ xs) =
    ap (λ (most : Float). cond (lt 1f most) (map (λ v. v -f (most -f 1f)) (x ∷ xs)) (x ∷ xs)) (walked_larger x xs)
    ∙ mapped_if (lt 1f (walked larger x xs)) (λ v. v -f (walked larger x xs -f 1f)) (x ∷ xs)

-- ---- the end

clipped_is : (m : List Float) → clipped m ≡ map (λ x. floor_clamp x 0f) m
unfolding clipped floor_clamp clamped
clipped_is [] = refl
clipped_is (x ∷ m) = ap₂ ◌∷◌ (go (finite x) (lt x 0f)) (clipped_is m)
  where
    go : (b c : Bool) → cond (c || not b) 0f (cond (lt 1f x) 1f x) ≡ cond b (cond c 0f (cond (lt 1f x) 1f x)) 0f
    go true true = refl
    go true false = refl
    go false true = refl
    go false false = refl

pub mix_is : (self : Quad) (torque : List Float) (thrust : Float)
    → mix self torque thrust ≡ answered (store_motors self (plain_motors quad_rows torque thrust))
unfolding mix plain_motors lower_limited raw_sums
mix_is self torque thrust =
    rw (
      sanitise_is thrust,
      sanitise_is (torque ! 0),
      sanitise_is (torque ! 1),
      sanitise_is (torque ! 2),
      sums_are (treated thrust) (roll torque) (pitch torque) (yaw torque),
      excess_taken_lem (raw_sums quad_rows torque thrust),
      clipped_is (lowered (raw_sums quad_rows torque thrust)),
    )

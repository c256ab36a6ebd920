-- The Rust's `mix_rotor_out` is document 01's rotor-out, for every rotor number: both calls of `solve3` have one
-- matrix, so that either both are solved or none is; and where none is, the zeros that the Rust keeps are those that
-- ours puts there. Assumes nothing.
use mathlib.Core.Path.{◌≡◌, refl, ap, ◌∙◌}
use mathlib.Core.Bool.{Bool, true, false, not, cond}
use mathlib.Core.List.{List, [], ◌∷◌, map}
use Prim.Native.Nat.{ℕ, zero, suc}
use borrow.Author.Tests.{ltb-true, ltb-false, le-leb, lt-leb}
use lib.Dec.{eqb, ltb, leb}
use lib.ListN.{length, get_or, set, replicate, length-set}
use lib.Ieee.{Float}
use Rattle.std.specs.Prelude.{Option, Some, None}
use Rattle.general.proofs.Lists.{map_same}
use Rattle.binary32.specs.Arithmetic.{◌+f◌, ◌*f◌, 0f, 1f}
use Rattle.number.specs.Treat.{treated, limited, floor_clamp}
use Rattle.fit.specs.Fit.{fit_scale}
use Rattle.solve.specs.Solve.{element, determinant, singular, solution, or_zeros}
use Rattle.rules.specs.Rows.{roll_of, pitch_of, quad_rows}
use Rattle.rules.specs.RotorOut.{3f, tilt, tilt_motor, healthy, equations, placed, base_without}
use Rattle.rules.specs.RotorOut.{delta_without, motor_without, motors_without, rotor_out_motors}
use Rattle.rust_text.specs.Forms.{◌!◌}
use Rattle.rust_text.specs.Numbers.{sanitise, clamp_floor}
use Rattle.rust_text.specs.State.{Quad, MIXER_X, answered, store_motors, store_scale}
use Rattle.rust_text.specs.RotorOut.{all_four, matrix, solved_into, all_but_one, three_of_four, mix_rotor_out}
use Rattle.rust_text.proofs.Numbers.{sanitise_is, limited_is, clamp_floor_is, tilt_clamp}
use Rattle.rust_text.proofs.Loops.{by_rows, same_body, set_if}
use Rattle.rust_text.proofs.Fit.{scale_to_fit_is}
use Rattle.rust_text.proofs.Solve.{optional, solve3_is}

-- ---- none lost

all_four_are : (floor t r p : Float) → all_four floor t r p ≡ map (tilt_motor floor t r p) quad_rows
unfolding all_four tilt_motor
all_four_are floor t r p =
    by_rows (λ row. clamp_floor (sanitise (t +f roll_of row *f r +f pitch_of row *f p)) floor)
    ∙ map_same (λ row.
    clamp_floor_is (sanitise (t +f roll_of row *f r +f pitch_of row *f p)) floor
    ∙ ap (λ (x : Float). floor_clamp x floor) (sanitise_is (t +f roll_of row *f r +f pitch_of row *f p))) quad_rows

-- ---- one lost: base and delta

matrix_is : (f : ℕ) → matrix (healthy f) ≡ equations f
unfolding matrix equations MIXER_X quad_rows
matrix_is f = refl

-- zeros put among zeros
zeros_stay : (i : ℕ) → set (replicate 4 0f) i 0f ≡ replicate 4 0f
zeros_stay zero = refl
zeros_stay (suc zero) = refl
zeros_stay (suc (suc zero)) = refl
zeros_stay (suc (suc (suc zero))) = refl
zeros_stay (suc (suc (suc (suc i)))) = refl

nothing_placed : (f : ℕ) → placed f (0f ∷ 0f ∷ 0f ∷ []) ≡ replicate 4 0f
unfolding placed
nothing_placed f =
    rw (zeros_stay (get_or (healthy f) 0 0), zeros_stay (get_or (healthy f) 1 0)) (zeros_stay (get_or (healthy f) 2 0))

-- two answers, both solved or neither
both_placed : (f : ℕ) (singular : Bool) (x y : List Float)
    → let answer : List Float → Option (List Float) = λ z. cond singular None (Some z) in
    solved_into (healthy f) (replicate 4 0f) (replicate 4 0f) (optional (answer x)) (optional (answer y))
    ≡ (placed f (or_zeros (answer x)), placed f (or_zeros (answer y)))
unfolding solved_into placed
both_placed f true x y = rw (nothing_placed f)
both_placed f false x y = refl

solved_placed : (f : ℕ) (v w : List Float)
    → solved_into (healthy f) (replicate 4 0f) (replicate 4 0f) (optional (solution (equations f) v))
    (optional (solution (equations f) w))
    ≡ (placed f (or_zeros (solution (equations f) v)), placed f (or_zeros (solution (equations f) w)))
unfolding solution
solved_placed f v w = both_placed f (singular (determinant (element (equations f)))) _ _

placed_length : (f : ℕ) (x : List Float) → length (placed f x) ≡ 4
unfolding placed
placed_length f x = simp length-set

three_equations : (f : ℕ) → length (equations f) ≡ 3
unfolding equations
three_equations f = refl

-- ---- one lost: the motors

-- what a healthy motor gets, and what the lost one does
motor_is : (f : ℕ) (floor s : Float) (bs ds : List Float) (i : ℕ)
    → cond (not (eqb i f)) (clamp_floor (sanitise (bs ! i +f s *f ds ! i)) floor) 0f ≡ motor_without f floor s bs ds i
unfolding motor_without
motor_is f floor s bs ds i =
    rw (clamp_floor_is (sanitise (bs ! i +f s *f ds ! i)) floor, sanitise_is (bs ! i +f s *f ds ! i))
    (go (eqb i f) (floor_clamp (treated (bs ! i +f s *f ds ! i)) floor))
  where
    go : (b : Bool) (x : Float) → cond (not b) x 0f ≡ cond b 0f x
    go true x = refl
    go false x = refl

all_but_one_are : (f : ℕ) (floor s : Float) (bs ds : List Float)
    → all_but_one f floor s bs ds ≡ map (motor_without f floor s bs ds) (0 ∷ 1 ∷ 2 ∷ 3 ∷ [])
unfolding all_but_one
all_but_one_are f floor s bs ds =
    let v : ℕ → Float = λ i. clamp_floor (sanitise (bs ! i +f s *f ds ! i)) floor in
    same_body (λ i m. cond (not (eqb i f)) (set m i (v i)) m) (λ i m. set m i (cond (not (eqb i f)) (v i) (m ! i)))
    (λ i m. set_if (not (eqb i f)) m i (v i)) 4 0 (replicate 4 0f)
    ∙ map_same (motor_is f floor s bs ds) (0 ∷ 1 ∷ 2 ∷ 3 ∷ [])

three_of_four_are : (f : ℕ) (floor t r p : Float)
    → three_of_four f floor t r p ≡ motors_without f floor (base_without f t) (delta_without f r p)
unfolding three_of_four motors_without base_without delta_without
three_of_four_are f floor t r p =
    let bs = base_without f t in
    let ds = delta_without f r p in
    rw (
      matrix_is f,
      solve3_is (equations f) (3f *f t ∷ 0f ∷ 0f ∷ []) (three_equations f) refl,
      solve3_is (equations f) (0f ∷ r ∷ p ∷ []) (three_equations f) refl,
      solved_placed f (3f *f t ∷ 0f ∷ 0f ∷ []) (0f ∷ r ∷ p ∷ []),
      scale_to_fit_is bs ds floor (placed_length f _) (placed_length f _),
    )
    (all_but_one_are f floor (fit_scale floor bs ds) bs ds)

-- ---- the mix

from_four : (f : ℕ) → leb 4 f ≡ not (ltb f 4)
from_four f = go (ltb f 4) refl
  where
    go : (b : Bool) → ltb f 4 ≡ b → leb 4 f ≡ not b
    go true e = lt-leb 4 f (ltb-true f 4 e)
    go false e = le-leb 4 f (ltb-false f 4 e)

-- either way out stores the motors that it returns
one_way_out : (self : Quad) (b : Bool) (m n : List Float)
    → cond (not b) (answered (store_motors self m)) (answered (store_motors self n))
    ≡ answered (store_motors self (cond b n m))
one_way_out self true m n = refl
one_way_out self false m n = refl

pub mix_rotor_out_is : (self : Quad) (failed : ℕ) (torque : List Float) (thrust floor : Float)
    → mix_rotor_out self failed torque thrust floor
    ≡ answered (store_motors (store_scale self 1f) (rotor_out_motors failed torque thrust floor))
unfolding mix_rotor_out rotor_out_motors tilt
mix_rotor_out_is self failed torque thrust floor =
    let low = limited floor in
    let t = limited thrust in
    let r = tilt (torque ! 0) in
    let p = tilt (torque ! 1) in
    rw (
      limited_is thrust,
      limited_is floor,
      sanitise_is (torque ! 0),
      sanitise_is (torque ! 1),
      tilt_clamp (treated (torque ! 0)),
      tilt_clamp (treated (torque ! 1)),
      from_four failed,
      all_four_are low t r p,
      three_of_four_are failed low t r p,
    )
    (one_way_out (store_scale self 1f) (ltb failed 4) (map (tilt_motor low t r p) quad_rows)
    (motors_without failed low (base_without failed t) (delta_without failed r p)))

-- The rotor-out mix (document 01, 'The five quad mixes', 5), of the quad alone. Definitions only; the quotations are
-- document 01's.
use Rattle.std.specs.Prelude.{cond, List, [], ◌∷◌, map, ℕ, ◌+◌, ◌%◌, eqb, ltb, get_or, set, Float}
use Rattle.std.specs.Float.{nan, binary32}
use Rattle.std.specs.Float.Ieee.{neg, of_bits}
use Rattle.binary32.specs.Arithmetic.{◌+f◌, ◌*f◌, 0f, 1f}
use Rattle.number.specs.Treat.{treated, clamped, limited, floor_clamp}
use Rattle.fit.specs.Fit.{fit_scale}
use Rattle.solve.specs.Solve.{solution, or_zeros}
use Rattle.rules.specs.Rows.{Row, roll_of, pitch_of, quad_rows}

-- 3 and 8
abbrev pub 3f : Float
3f = of_bits binary32 0x4040_0000

abbrev pub 8f : Float
8f = of_bits binary32 0x4100_0000

-- "Roll and pitch are treated, then limited to -8..8, so an infinity gives +0; yaw is dropped."
unfoldable pub tilt : Float → Float
tilt x = clamped (treated x) (neg 8f) 8f

-- ---- no rotor lost

-- "Rotor number 4 or more: floor clamp of treated t + roll + pitch products, no scaling, and t is not lifted to the
-- floor first."
unfoldable pub tilt_motor : Float → Float → Float → Float → Row → Float
tilt_motor floor t r p row = floor_clamp (treated (t +f roll_of row *f r +f pitch_of row *f p)) floor

-- ---- rotor f lost, f in 0..3

-- "healthy rotors f+1, f+2, f+3 modulo 4 in that order"
abbrev pub healthy : ℕ → List ℕ
healthy f = (f + 1) % 4 ∷ (f + 2) % 4 ∷ (f + 3) % 4 ∷ []

-- what the healthy rotors' commands have to give: their sum, their roll and their pitch, an equation each
unfoldable pub equations : ℕ → List (List Float)
equations f =
    map (λ i. 1f) (healthy f)
    ∷ map (λ i. roll_of (get_or quad_rows i [])) (healthy f)
    ∷ map (λ i. pitch_of (get_or quad_rows i [])) (healthy f) ∷ []

-- the three numbers of the healthy rotors put at their places, "with the lost rotor's base and delta 0"
unfoldable pub placed : ℕ → List Float → List Float
placed f x =
    let first = set (0f ∷ 0f ∷ 0f ∷ 0f ∷ []) (get_or (healthy f) 0 0) (get_or x 0 nan) in
    let second = set first (get_or (healthy f) 1 0) (get_or x 1 nan) in
    set second (get_or (healthy f) 2 0) (get_or x 2 nan)

-- "Cramer's rule [...] for (3t,0,0) as base and (0,roll,pitch) as delta"
unfoldable pub base_without : ℕ → Float → List Float
base_without f t = placed f (or_zeros (solution (equations f) (3f *f t ∷ 0f ∷ 0f ∷ [])))

unfoldable pub delta_without : ℕ → Float → Float → List Float
delta_without f r p = placed f (or_zeros (solution (equations f) (0f ∷ r ∷ p ∷ [])))

-- "healthy motors get the floor clamp of treated base + s*delta, the lost one +0"
unfoldable pub motor_without : ℕ → Float → Float → List Float → List Float → ℕ → Float
motor_without f floor s bs ds i =
    cond (eqb i f) 0f (floor_clamp (treated (get_or bs i nan +f s *f get_or ds i nan)) floor)

-- "fit scale over all four"
unfoldable pub motors_without : ℕ → Float → List Float → List Float → List Float
motors_without f floor bs ds = map (motor_without f floor (fit_scale floor bs ds) bs ds) (0 ∷ 1 ∷ 2 ∷ 3 ∷ [])

-- ---- both: thrust and floor are limited first ('Treating the numbers'; 000, 423-424)

unfoldable pub rotor_out_motors : ℕ → List Float → Float → Float → List Float
rotor_out_motors f torque thrust floor =
    let low = limited floor in
    let t = limited thrust in
    let r = tilt (get_or torque 0 nan) in
    let p = tilt (get_or torque 1 nan) in
    cond (ltb f 4) (motors_without f low (base_without f t) (delta_without f r p))
    (map (tilt_motor low t r p) quad_rows)

-- "The thrust column is not read" (document 02, K6): whatever thrusts stand in the rows, motors and scale are the same.
-- Assumes nothing.
use mathlib.Core.Path.{◌≡◌, refl, sym, ap₂, ◌∙◌}
use mathlib.Core.List.{List, [], ◌∷◌, map}
use lib.ListN.{set}
use lib.Ieee.{Float}
use Rattle.rules.specs.Rows.{Row}
use Rattle.rules.specs.Command.{delta, deltas}
use Rattle.rules.specs.ThrustFloor.{thrust_floor_motors, thrust_floor_scale}
use Rattle.multi.specs.declared.Wrench.{Wrench}
use Rattle.multi_thrust_floor.specs.Floored.{wrench_torque, floored_motors, floored_scale, Floored}

-- the rows with other thrusts: of each row the one that t gives it
abbrev pub with_thrusts : (Row → Float) → List Row → List Row
with_thrusts t rows = map (λ row. set row 0 (t row)) rows

delta_same : (r p y : Float) (row : Row) (t : Float) → delta r p y (set row 0 t) ≡ delta r p y row
unfolding delta
delta_same r p y [] t = refl
delta_same r p y (x ∷ row) t = refl

deltas_same : (t : Row → Float) (rows : List Row) (torque : List Float)
    → deltas (with_thrusts t rows) torque ≡ deltas rows torque
unfolding deltas
deltas_same t [] torque = refl
deltas_same t (row ∷ rows) torque = ap₂ ◌∷◌ (delta_same _ _ _ row (t row)) (deltas_same t rows torque)

module _ (t : Row → Float) (rows : List Row) (w : Wrench) (floor : Float) where
  motors_same : floored_motors (with_thrusts t rows) w floor ≡ floored_motors rows w floor
  unfolding thrust_floor_motors
  motors_same = rw (deltas_same t rows (wrench_torque w))

  scale_same : floored_scale (with_thrusts t rows) w floor ≡ floored_scale rows w floor
  unfolding thrust_floor_scale
  scale_same = rw (deltas_same t rows (wrench_torque w))

  pub thrusts_not_read : (motors others : List Float) (scale other : Float)
      → Floored (with_thrusts t rows) w floor motors scale
      → Floored rows w floor others other
      → (motors ≡ others) × (scale ≡ other)
  thrusts_not_read motors others scale other h k =
      (h.is ∙ motors_same ∙ sym k.is, h.scale_is ∙ scale_same ∙ sym k.scale_is)

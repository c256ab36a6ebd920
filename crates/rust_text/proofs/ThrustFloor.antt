-- The Rust's `mix_thrust_floor` is document 01's thrust-floor, its recorded scale too. Assumes nothing.
use mathlib.Core.Path.{◌≡◌, refl, ◌∙◌}
use mathlib.Core.List.{List, map}
use lib.ListN.{length}
use lib.Ieee.{Float}
use Rattle.general.proofs.Lists.{map_same}
use Rattle.binary32.specs.Arithmetic.{◌+f◌, ◌*f◌}
use Rattle.number.specs.Treat.{limited}
use Rattle.rules.specs.Rows.{quad_rows}
use Rattle.rules.specs.Command.{roll, pitch, yaw, lifted, collective, delta, deltas}
use Rattle.rules.specs.ThrustFloor.{one_scale, scaled_motor, scaled_motors, thrust_floor_scale, thrust_floor_motors}
use Rattle.rust_text.specs.Forms.{◌!◌}
use Rattle.rust_text.specs.Numbers.{sanitise, clamp_floor}
use Rattle.rust_text.specs.State.{Quad, answered, store_motors, store_scale}
use Rattle.rust_text.specs.ThrustFloor.{torque_deltas, scaled_over, mix_thrust_floor}
use Rattle.rust_text.proofs.Numbers.{sanitise_is, limited_is, clamp_floor_is}
use Rattle.rust_text.proofs.Loops.{by_rows, by_places}
use Rattle.rust_text.proofs.Fit.{torque_scale_is}

pub torque_deltas_are : (r p y : Float) → torque_deltas r p y ≡ map (delta r p y) quad_rows
unfolding torque_deltas delta
torque_deltas_are r p y =
    by_rows (λ row. sanitise (row ! 1 *f r +f row ! 2 *f p +f row ! 3 *f y)) ∙ map_same (λ row. sanitise_is _) quad_rows

scaled_over_is : (base floor s : Float) (d : List Float) → length d ≡ 4
    → scaled_over base floor s d ≡ map (scaled_motor floor base s) d
unfolding scaled_over scaled_motor
scaled_over_is base floor s d e =
    by_places (λ x. clamp_floor (base +f s *f x) floor) d e ∙ map_same (λ x. clamp_floor_is _ floor) d

pub four_deltas : (torque : List Float) → length (deltas quad_rows torque) ≡ 4
unfolding deltas quad_rows
four_deltas torque = refl

pub mix_thrust_floor_is : (self : Quad) (torque : List Float) (thrust floor : Float)
    → mix_thrust_floor self torque thrust floor
    ≡ answered (store_scale (store_motors self (thrust_floor_motors quad_rows torque thrust floor))
    (thrust_floor_scale quad_rows torque thrust floor))
unfolding mix_thrust_floor thrust_floor_motors thrust_floor_scale scaled_motors one_scale lifted deltas
mix_thrust_floor_is self torque thrust floor =
    let base = collective thrust floor in
    let ds = deltas quad_rows torque in
    rw (
      limited_is thrust,
      limited_is floor,
      sanitise_is (torque ! 0),
      sanitise_is (torque ! 1),
      sanitise_is (torque ! 2),
      torque_deltas_are (roll torque) (pitch torque) (yaw torque),
      torque_scale_is base (limited floor) ds,
      scaled_over_is base (limited floor) (one_scale (limited floor) base ds) ds (four_deltas torque),
    )

-- `thrust_floor::motors` meets its contract: the scale is the fit scale with one base for all, and the motors are those
-- at that scale, each made of its delta. Assumes nothing.
use mathlib.Core.Path.{◌≡◌}
use mathlib.Core.List.{map}
use borrow.Author.Rules.{rules}
use Rattle.general.proofs.Mapped.{mapped}
use Rattle.rules.specs.Rows.{quad_rows}
use Rattle.rules.specs.Command.{deltas}
use Rattle.rules.specs.ThrustFloor.{scaled_motor, one_scale, scaled_motors, thrust_floor_scale, thrust_floor_motors}
use Rattle.thrust_floor.proofs.motors.Goals as goal

pub returns : goal.returns
unfolding quad_rows deltas one_scale scaled_motors thrust_floor_scale thrust_floor_motors
returns c =
    let low = c.limit-low.result in
    let base = c.lift-base.result in
    let s = c.scale-s.result in
    let each : c.map-motors.result ≡ map (scaled_motor low base s) c.deltas-d.result =
    mapped _ _ (scaled_motor low base s) 4 c.deltas-d.result _ (rw c.deltas-d.ensures) c.map-motors.ensures.items
    (λ x y q k. search rules) in
    rw each
    simp (
      c.scale-s.ensures.is,
      c.deltas-d.ensures,
      c.lift-base.ensures,
      c.limit.ensures,
      c.limit-low.ensures,
    )

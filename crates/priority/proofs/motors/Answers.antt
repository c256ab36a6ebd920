-- `priority::motors` meets its contract: the two groups, the two scales, and the motors at these. Assumes nothing.
use mathlib.Core.Path.{◌≡◌, refl, ◌∙◌}
use Prim.Native.Nat.{ℕ}
use lib.ListN.{get_or}
use lib.Ieee.{nan}
use Rattle.std.proofs.Common.{rules}
use Rattle.general.proofs.Four.{four}
use Rattle.rules.specs.Rows.{quad_rows}
use Rattle.rules.specs.Priority.{priority_motor, priority_motors}
use Rattle.priority.proofs.motors.Goals as goal

pub returns : goal.returns
unfolding quad_rows priority_motors
returns c =
    let rp = c.roll_pitch_groups-drp.result in
    let y = c.yaw_groups-dy.result in
    let m =
    λ (i : ℕ). priority_motor c.limit-low.result c.lift-base.result c.roll_pitch_scale-srp.result
    c.yaw_scale-sy.result (get_or rp i nan) (get_or y i nan) in
    let first : get_or c.from_fn.result 0 nan ≡ m 0 = search rules in
    let second : get_or c.from_fn.result 1 nan ≡ m 1 = search rules in
    let third : get_or c.from_fn.result 2 nan ≡ m 2 = search rules in
    let fourth : get_or c.from_fn.result 3 nan ≡ m 3 = search rules in
    four c.from_fn.result c.from_fn.ensures.items.long
    ∙ rw (
      first,
      second,
      third,
      fourth,
      c.roll_pitch_scale-srp.ensures,
      c.yaw_scale-sy.ensures,
      c.roll_pitch_groups-drp.ensures,
      c.yaw_groups-dy.ensures,
      c.lift-base.ensures,
      c.limit.ensures,
      c.limit-low.ensures,
    ) refl

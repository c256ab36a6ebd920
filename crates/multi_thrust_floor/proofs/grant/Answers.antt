-- `multi_thrust_floor::grant` meets its contract: of one base for all there may be more than there are deltas. Assumes
-- nothing.
use mathlib.Core.Path.{◌∙◌}
use Rattle.fit.proofs.Walk.{scale_one_base}
use Rattle.rules.specs.Multi.{max_outputs}
use Rattle.rules.specs.ThrustFloor.{one_scale, scaled_motors}
use Rattle.multi_thrust_floor.proofs.grant.Goals as goal

pub returns : goal.returns
unfolding one_scale scaled_motors
returns c =
    let low = c.limit-low.ensures in
    let thrust = c.limit.ensures in
    let base = c.lift-base.ensures in
    let one = c.scale-s.ensures.is ∙ scale_one_base _ _ max_outputs c.args.d.now c.requires in
    record { scale_is = one ∙ rw (base, thrust, low); is = c.give.ensures ∙ rw (one, base, thrust, low) }

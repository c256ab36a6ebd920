-- `rotors::command::deltas` meets its contract: treating changes nothing of what moderate torques ask
-- (`moderate_deltas`), and what the others ask is treated. Assumes nothing.
use mathlib.Core.Path.{refl, sym, ◌∙◌, subst}
use lib.Dec.{T}
use lib.ListN.{get_or}
use lib.Ieee.{nan}
use Rattle.std.proofs.Common.{rules}
use Rattle.binary32.specs.Arithmetic.{◌+f◌, ◌*f◌}
use Rattle.number.specs.Treat.{treated}
use Rattle.general.proofs.Held.{array_held}
use Rattle.general.proofs.Mapped.{mapped, three_mapped}
use Rattle.rules.specs.Rows.{Row, roll_of, pitch_of, yaw_of, quad_rows}
use Rattle.rules.specs.Command.{delta, deltas}
use Rattle.rules.proofs.Clamp.{treated_finite}
use Rattle.rules.proofs.Moderate.{moderate_deltas}
use Rattle.rotors.proofs.command.deltas.Goals as goal

pub returns-then-all_moderate : goal.returns-then-all_moderate
unfolding quad_rows
returns-then-all_moderate c =
    let torque = c.args.torque_body in
    let t = c.map.result in
    let is =
    three_mapped _ _ treated torque t nan nan (search rules) c.map.ensures.items (λ x y q k. search rules) in
    let held = array_held 3 torque _ c.well_formed.0 in
    let all = rw (is.0, is.1, is.2) at c.all_moderate.ensures in
    mapped _ _
    (λ (row : Row). roll_of row *f get_or t 0 nan +f pitch_of row *f get_or t 1 nan +f yaw_of row *f get_or t 2 nan)
    4 quad_rows _ refl c.map-then-all_moderate.ensures.items (λ x y q k. search rules)
    ∙ rw (is.0, is.1, is.2)
    (moderate_deltas torque (treated_finite _ (held 0)).fits (treated_finite _ (held 1)).fits
    (treated_finite _ (held 2)).fits (subst T (sym c.if-all_moderate.true ∙ all) tt))

pub returns : goal.returns
unfolding quad_rows deltas
returns c =
    let t = c.map.result in
    let is =
    three_mapped _ _ treated c.args.torque_body t nan nan (search rules) c.map.ensures.items
    (λ x y q k. search rules) in
    mapped _ _ (delta (get_or t 0 nan) (get_or t 1 nan) (get_or t 2 nan)) 4 quad_rows _ refl c.map-2.ensures.items
    (λ x y q k. search rules)
    ∙ rw (is.0, is.1, is.2) refl

-- `multi_thrust_floor::ask` meets its contract. The loop's invariant: the outputs up to i are filled with the rule's
-- deltas, and the others are as they were. Assumes nothing.
use mathlib.Core.Path.{◌∙◌}
use mathlib.Core.List.{[]}
use Prim.Native.Nat.{◌<◌}
use native.Mathlib.Omega.{arith}
use lib.ListN.{length}
use lib.Ieee.{nan}
use Rattle.std.proofs.Common.{rules}
use Rattle.general.proofs.Filled.{fill_mapped, filled_mapped}
use Rattle.general.proofs.Mapped.{three_mapped}
use Rattle.number.specs.Treat.{treated}
use Rattle.multi_thrust_floor.specs.Floored.{wrench_torque}
use Rattle.rules.specs.Command.{deltas}
use Rattle.multi_thrust_floor.proofs.ask.Goals as goal

pub loop-i-preserved : goal.loop-i-preserved
loop-i-preserved c =
    let bound : c.loop-i.i < length c.args.out.now = omega arith in
    fill_mapped _ c.args.rows.now c.args.out.now c.requires c.loop-i.out c.loop-i.i [] nan bound c.loop-i.invariant
    c.delta.ensures

pub returns : goal.returns
unfolding deltas
returns c =
    let is =
    three_mapped _ _ treated (wrench_torque c.args.w) c.map.result nan nan (search rules) c.map.ensures.items
    (λ x y q k. search rules) in
    c.loop-i.invariant
    ∙ filled_mapped _ c.args.rows.now c.args.out.now c.requires c.loop-i.i (omega arith)
    ∙ rw (is.0, is.1, is.2)

-- `frame::treated_sums` meets its contract. The loop's invariant: the sums up to i are filled in, treated, and the
-- others are as they were. Assumes nothing.
use mathlib.Core.Path.{◌≡◌, sym, ◌∙◌}
use mathlib.Core.List.{List, [], map, map-map}
use Prim.Native.Nat.{◌<◌}
use native.Mathlib.Omega.{arith}
use lib.ListN.{length}
use lib.Ieee.{Float, nan}
use Rattle.std.proofs.Common.{rules}
use Rattle.general.proofs.Filled.{fill_mapped, filled_mapped}
use Rattle.general.proofs.Mapped.{three_mapped}
use Rattle.number.specs.Treat.{treated}
use Rattle.rules.specs.Rows.{Row}
use Rattle.rules.specs.Command.{roll, pitch, yaw}
use Rattle.rules.specs.Plain.{raw_sums}
use Rattle.frame.proofs.treated_sums.Invariants.{sum_of}
use Rattle.frame.proofs.treated_sums.Goals as goal

rule-is : (rows : List Row) (torque : List Float) (thrust : Float)
    → map (sum_of (treated thrust) (roll torque) (pitch torque) (yaw torque)) rows
    ≡ map treated (raw_sums rows torque thrust)
unfolding raw_sums
rule-is rows torque thrust = sym (map-map treated _ rows)

pub loop-i-preserved : goal.loop-i-preserved
loop-i-preserved c =
    let bound : c.loop-i.i < length c.args.m.now = omega arith in
    fill_mapped _ c.args.rows.now c.args.m.now c.requires c.loop-i.m c.loop-i.i [] nan bound c.loop-i.invariant
    (c.sanitise.ensures ∙ rw c.raw_sum-sum.ensures)

pub returns : goal.returns
returns c =
    let rows = c.args.rows.now in
    let is =
    three_mapped _ _ treated c.args.torque_body c.map.result nan nan (search rules) c.map.ensures.items
    (λ x y q k. search rules) in
    c.loop-i.invariant
    ∙ filled_mapped _ rows c.args.m.now c.requires c.loop-i.i (omega arith)
    ∙ rw (is.0, is.1, is.2, c.sanitise-t.ensures) (rule-is rows c.args.torque_body c.args.thrust)

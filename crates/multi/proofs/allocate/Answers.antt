-- `multi::allocate` meets its contract. The loop's invariant: the outputs up to i are filled with the rule's motors,
-- and the others are as they were. Assumes nothing.
use mathlib.Core.Path.{◌∙◌}
use mathlib.Core.List.{[]}
use Prim.Native.Nat.{◌<◌}
use native.Mathlib.Omega.{arith}
use lib.ListN.{length}
use lib.Ieee.{nan}
use Rattle.general.proofs.Filled.{fill_mapped, filled_mapped}
use Rattle.rules.specs.Multi.{wrench_motors}
use Rattle.multi.proofs.allocate.Invariants.{motor_of}
use Rattle.multi.proofs.allocate.Goals as goal

pub loop-i-preserved : goal.loop-i-preserved
loop-i-preserved c =
    let bound : c.loop-i.i < length c.args.out.now = omega arith in
    fill_mapped (motor_of c.args.w) c.args.rows.now c.args.out.now c.requires c.loop-i.out c.loop-i.i [] nan bound
    c.loop-i.invariant (c.clamp01.ensures ∙ rw c.raw_sum.ensures)

pub returns : goal.returns
unfolding wrench_motors
returns c =
    c.loop-i.invariant
    ∙ filled_mapped (motor_of c.args.w) c.args.rows.now c.args.out.now c.requires c.loop-i.i (omega arith)

-- In every state that calls from C reach from a fresh one the stored sums are those of its motors (document 02, K7), so
-- that the reader hands a display what it would else work out. Assumes nothing.
use mathlib.Core.Path.{◌≡◌, sym, subst, ◌∙◌}
use mathlib.Core.List.{List}
use lib.Ieee.{Float}
use Rattle.rules.specs.Rows.{quad_rows}
use Rattle.rules.specs.Torque.{torque_of}
use Rattle.quad.specs.declared.QuadMixer.{QuadMixer}
use Rattle.quad.specs.State.{HoldsTorque}
use Rattle.quad.proofs.Torque.{fresh_holds, mixed_to_holds, reached_by_holds}
use Rattle.sheet_run.proofs.Torque.{run_holds}
use Rattle.exported.specs.Reached.{LentTo, by_new, by_mix, by_run, LentReached}

lent_to_holds : (before after : QuadMixer) → HoldsTorque before → LentTo before after → HoldsTorque after
lent_to_holds before after h (by_new e) = subst HoldsTorque (sym e) fresh_holds
lent_to_holds before after h (by_mix mixed) = mixed_to_holds mixed
lent_to_holds before after h (by_run s out number i written run) = run_holds h run.ran

pub lent_reached_holds : {q : QuadMixer} → LentReached q → HoldsTorque q
lent_reached_holds = reached_by_holds lent_to_holds

-- what `footspandle_quad32_last_torque` stores is what `footspandle_motors_to_torque_signs` does of the state's motors
pub read_for_computed : {q : QuadMixer} (read computed : List Float) → LentReached q
    → read ≡ q.last_torque → computed ≡ torque_of quad_rows q.last_motors → read ≡ computed
read_for_computed read computed reached is_read is_computed =
    is_read ∙ lent_reached_holds reached ∙ sym is_computed

-- `sheet_run::run_entries` meets its contract. The invariant: the commands that are left, from the state and the place
-- reached, give the whole run's state and output. Assumes nothing.
use mathlib.Core.Path.{◌≡◌}
use Prim.Native.Nat.{◌*◌, ◌-◌}
use lib.ListN.{length}
use Rattle.wire.specs.Bytes.{write_at}
use Rattle.entries.specs.Layout.{count_of}
use Rattle.sheet_run.specs.Run.{commands_from, commands_of, ran, answers_of}
use Rattle.sheet_run.proofs.run_entries.Given as goal

abbrev pub invariant-loop-number : goal.invariant-loop-number
invariant-loop-number l = record {
  size : length l.out ≡ length l.initial.out;
  state : ran l.q (commands_from l.sheet l.number (count_of l.sheet - l.number))
      ≡ ran l.initial.q (commands_of l.sheet);
  output : write_at l.out (20 * l.number)
      (answers_of l.q (commands_from l.sheet l.number (count_of l.sheet - l.number)))
      ≡ write_at l.initial.out 0 (answers_of l.initial.q (commands_of l.sheet));
}

-- `sheet_run::run_entries` meets its contract. The invariant: the commands that are left, from the state and the place
-- reached, give the whole run's state and output. Assumes nothing.
use mathlib.Core.Path.{◌≡◌, refl, sym, ap, ◌∙◌}
use Prim.Native.Nat.{◌*◌, ◌-◌, ◌≤◌, ◌<◌}
use native.Mathlib.Omega.{arith}
use lib.ListN.{length}
use borrow.Rule.Slice.PartMut.{put_mid}
use Rattle.wire.proofs.Part.{part_written}
use Rattle.wire.specs.Bytes.{write_at}
use Rattle.wire.proofs.LittleEndian.{write_at_length}
use Rattle.entries.specs.Layout.{count_of}
use Rattle.entries.specs.Entry.{command_with, command_at}
use Rattle.entries.proofs.Chosen.{chosen_case}
use Rattle.sheet.proofs.Accepted.{is_accepted_lem, is_command}
use Rattle.sheet_run.specs.Run.{called, answer_of}
use Rattle.sheet_run.proofs.Methods.{gives_called}
use Rattle.sheet_run.proofs.Judged.{output_fits}
use Rattle.sheet_run.proofs.ByVerdict.{run_accepted}
use Rattle.sheet_run.proofs.Walk.{ran_more, written_more, ran_all, written_all}
use Rattle.sheet_run.proofs.run_entries.Goals as goal

pub unwrap-case-requires : goal.unwrap-case-requires
unwrap-case-requires c =
    let under : c.loop-number.number < count_of c.args.sheet.now =
    rw c.count-number-end.ensures at c.loop-number-test.true in
    is_command _ (is_accepted_lem _ c.requires.0) under (rw (c.kind.ensures, c.rotor.ensures) at c.choose.ensures)

pub loop-number-preserved : goal.loop-number-preserved
unfolding command_at
loop-number-preserved c =
    let s = c.args.sheet.now in
    let i = c.loop-number.number in
    let out = c.loop-number.out in
    let inv = c.loop-number.invariant in
    let under : i < count_of s = rw c.count-number-end.ensures at c.loop-number-test.true in
    let room : 20 * count_of s ≤ length out = rw inv.size c.requires.1 in
    -- the state after the next command
    let case : _ =
    (chosen_case (rw (c.kind.ensures, c.rotor.ensures, c.unwrap-case.ensures) at c.choose.ensures)).1 in
    let is : c.call-q.result ≡ called c.loop-number.q (command_at s i) =
    gives_called _ _ _ c.call-q.ensures ∙ ap (called _) (c.command.ensures ∙ ap (command_with _ _) case) in
    -- the output with its answer
    let place : 20 * i ≤ length out = omega arith in
    let written : put_mid (20 * i) (length out - 20 * i) out c.write_answer.new.out
    ≡ write_at out (20 * i) (answer_of c.call-q.result) =
    rw c.write_answer.ensures (part_written out (20 * i) place _) in
    record {
      size = rw (written, write_at_length) inv.size;
      state = rw is (sym (ran_more _ _ _ _ under) ∙ inv.state);
      output = rw (written, is) (sym (written_more _ _ _ _ under _ room) ∙ inv.output);
    }

pub returns : goal.returns
returns c =
    let a = c.args in
    let pre = c.requires in
    let s = a.sheet.now in
    let inv = c.loop-number.invariant in
    let last : c.loop-number.number ≡ count_of s = omega (arith, c.count-number-end.ensures) in
    run_accepted (sym (output_fits s (length a.out.now) pre.0 pre.1)) refl
    (sym (ran_all s c.loop-number.q c.loop-number.number (count_of s) last) ∙ inv.state)
    (sym (written_all s c.loop-number.q c.loop-number.number (count_of s) last c.loop-number.out) ∙ inv.output)

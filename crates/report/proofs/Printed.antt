-- What is printed, by the verdict of the run. The program's output has room for more answers than a sheet has: the
-- lines read only those. Assumes nothing.
use mathlib.Core.Path.{◌≡◌, refl, sym, ap, ◌∙◌}
use mathlib.Core.List.{List}
use Prim.Native.Nat.{ℕ, zero, suc, ◌+◌, ◌*◌, ◌≤◌}
use native.Mathlib.Nat.{zero-add}
use native.Mathlib.Omega.{arith}
use lib.ListN.{length}
use Rattle.wire.specs.Bytes.{read_at, write_at}
use Rattle.wire.proofs.LittleEndian.{read_at_within}
use Rattle.refusals.specs.Numbers.{accepted}
use Rattle.refusals.specs.Told.{Told}
use Rattle.quad.specs.declared.QuadMixer.{QuadMixer}
use Rattle.quad.specs.State.{fresh}
use Rattle.entries.specs.Layout.{count_of}
use Rattle.entries.specs.Refusal.{refusal_number}
use Rattle.entries.proofs.Chosen.{never_accepted}
use Rattle.std.specs.declared.result.Result.{Result}
use Rattle.std.specs.declared.result.Result.TheVariants.{Ok, Err}
use Rattle.sheet.specs.declared.Refused.{Refused}
use Rattle.sheet.specs.Table.{told_by}
use Rattle.sheet_run.specs.Run.{commands_of, answers_of, judged_for, Ran}
use Rattle.sheet_run.proofs.AnswerBytes.{answers_length}
use Rattle.sheet_run.proofs.Walk.{commands_length}
use Rattle.sheet_run.proofs.Judged.{accepted_for}
use Rattle.lines.specs.Lines.{word_at, line_of, lines_from, lines_of, refused_line}
use Rattle.report.specs.Report.{room, printed}

-- ---- lines read off an output that begins with the answers

module _ (out answers : List ℕ) (held : length answers ≤ length out) where
  word_written : (at : ℕ) → at + 4 ≤ length answers → word_at (write_at out 0 answers) at ≡ word_at answers at
  unfolding word_at
  word_written at h =
      let same : read_at 4 (write_at out 0 answers) (0 + at) ≡ read_at 4 answers at =
      read_at_within 4 out 0 answers at (rw zero-add held) h in
      rw (rw zero-add at same)

  line_written : (s : List ℕ) (i : ℕ) → 20 * i + 20 ≤ length answers
      → line_of s (write_at out 0 answers) i ≡ line_of s answers i
  unfolding line_of
  line_written s i h =
      rw (
        word_written (20 * i) (omega arith),
        word_written (20 * i + 4) (omega arith),
        word_written (20 * i + 8) (omega arith),
        word_written (20 * i + 12) (omega arith),
        word_written (20 * i + 16) (omega arith),
      )

  lines_written : (s : List ℕ) (i left : ℕ) → 20 * (i + left) ≤ length answers
      → lines_from s (write_at out 0 answers) i left ≡ lines_from s answers i left
  unfolding lines_from
  lines_written s i zero h = refl
  lines_written s i (suc left) h = rw (line_written s i (omega arith), lines_written s (suc i) left (omega arith))

-- ---- what is printed

module _ {s out : List ℕ} {v : Result Unit Refused} {after : QuadMixer} {written : List ℕ}
    (run : Ran s fresh out v after written) (size : length out ≡ room) where
  told : told_by v ≡ judged_for s room
  told = run.told ∙ ap (judged_for s) size

  pub refused_printed : {r : Refused} → v ≡ Err r → printed s ≡ refused_line (refusal_number r.why) r.entry
  unfolding printed
  refused_printed {r} is = rw (← told, is, never_accepted r.why)

  pub accepted_printed : v ≡ Ok tt → printed s ≡ lines_of s written
  unfolding printed lines_of
  accepted_printed is =
      let all = answers_of fresh (commands_of s) in
      let number : (judged_for s room).number ≡ accepted = ap (λ (t : Told). t.number) (sym told ∙ ap told_by is) in
      let enough = (accepted_for s room number).1 in
      let count : length all ≡ 20 * count_of s =
      answers_length fresh (commands_of s) ∙ ap (λ (n : ℕ). 20 * n) (commands_length s 0 (count_of s)) in
      let put : written ≡ write_at out 0 all = rw (size, number) at run.output in
      rw (number, put) (sym (lines_written out all (omega arith) s 0 (count_of s) (omega arith)))

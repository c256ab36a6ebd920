-- What a run is, by its verdict. Assumes nothing.
use mathlib.Core.Path.{◌≡◌}
use mathlib.Core.List.{List}
use Prim.Native.Nat.{ℕ}
use lib.ListN.{length}
use Rattle.wire.specs.Bytes.{write_at}
use Rattle.quad.specs.declared.QuadMixer.{QuadMixer}
use Rattle.entries.specs.Layout.{count_of}
use Rattle.entries.proofs.Chosen.{never_accepted}
use Rattle.std.specs.declared.result.Result.{Result}
use Rattle.std.specs.declared.result.Result.TheVariants.{Ok, Err}
use Rattle.sheet.specs.declared.Refused.{Refused}
use Rattle.sheet.specs.Table.{told_by}
use Rattle.sheet.proofs.Verdicts.{accepted_number, refused_number}
use Rattle.sheet_run.specs.Run.{commands_of, ran, answers_of, judged_for, Ran}
use Rattle.sheet_run.proofs.Keeps.{each_keeps}

module _ {s : List ℕ} {before : QuadMixer} {out : List ℕ} {v : Result Unit Refused}
    (told : told_by v ≡ judged_for s (length out)) where
  pub run_refused : {r : Refused} → v ≡ Err r → Ran s before out v before out
  run_refused {r} is =
      let number = refused_number told is in
      record {
        told = told;
        state = rw (number, never_accepted r.why);
        output = rw (number, never_accepted r.why);
        keeps = λ e. each_keeps s before 0 (count_of s);
      }

  pub run_accepted : {after : QuadMixer} {written : List ℕ} → v ≡ Ok tt → after ≡ ran before (commands_of s)
      → written ≡ write_at out 0 (answers_of before (commands_of s)) → Ran s before out v after written
  run_accepted is state output =
      let number = accepted_number told is in
      record {
        told = told;
        state = rw number state;
        output = rw number output;
        keeps = λ e. each_keeps s before 0 (count_of s);
      }

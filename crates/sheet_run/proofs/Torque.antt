-- In every state that is reached from a fresh one the stored sums are those of its motors (document 02, K7). Assumes
-- nothing.
use mathlib.Core.Path.{refl, sym, subst}
use mathlib.Core.Bool.{Bool, true, false, cond}
use mathlib.Core.List.{List, [], ◌∷◌}
use Prim.Native.Nat.{ℕ}
use lib.Dec.{eqb}
use lib.ListN.{length}
use Rattle.refusals.specs.Numbers.{accepted}
use Rattle.quad.specs.declared.QuadMixer.{QuadMixer}
use Rattle.quad.specs.State.{HoldsTorque}
use Rattle.quad.proofs.Torque.{mixed_to_holds, reached_by_holds}
use Rattle.entries.specs.declared.command.Command.{Command}
use Rattle.entries.specs.declared.command.Command.TheVariants.{Plain, ThrustFloor, Priority, Airmode, RotorOut}
use Rattle.std.specs.declared.result.Result.{Result}
use Rattle.sheet.specs.declared.Refused.{Refused}
use Rattle.sheet_run.specs.Run.{called, commands_of, ran, judged_for, Ran}
use Rattle.sheet_run.specs.Reached.{CalledTo, by_mix, by_run, Reached}

-- after the call of any command, whatever the state before was
called_holds : (q : QuadMixer) (c : Command) → HoldsTorque (called q c)
unfolding called
called_holds q (Plain d) = refl
called_holds q (ThrustFloor d floor) = refl
called_holds q (Priority d floor) = refl
called_holds q (Airmode d floor) = refl
called_holds q (RotorOut failed d floor) = refl

ran_holds : (q : QuadMixer) (cs : List Command) → HoldsTorque q → HoldsTorque (ran q cs)
unfolding ran
ran_holds q [] h = h
ran_holds q (c ∷ cs) h = ran_holds (called q c) cs (called_holds q c)

either_holds : (b : Bool) (q r : QuadMixer) → HoldsTorque q → HoldsTorque r → HoldsTorque (cond b q r)
either_holds true q r hq hr = hq
either_holds false q r hq hr = hr

-- accepted, the state is that after the commands; refused, the one before
pub run_holds : {s out : List ℕ} {verdict : Result Unit Refused} {before after : QuadMixer} {written : List ℕ}
    → HoldsTorque before → Ran s before out verdict after written → HoldsTorque after
run_holds {s} {out} {before} h run =
    let is_accepted_lem = eqb (judged_for s (length out)).number accepted in
    let last = ran before (commands_of s) in
    subst HoldsTorque (sym run.state) (either_holds is_accepted_lem last before (ran_holds before (commands_of s) h) h)

called_to_holds : (before after : QuadMixer) → HoldsTorque before → CalledTo before after → HoldsTorque after
called_to_holds before after h (by_mix mixed) = mixed_to_holds mixed
called_to_holds before after h (by_run s out verdict written run) = run_holds h run

pub reached_holds : {q : QuadMixer} → Reached q → HoldsTorque q
reached_holds = reached_by_holds called_to_holds

-- Running a sheet (document 01, 'The command sheet (ours)': "An accepted sheet is run from a [...] state as the same
-- calls one after another"). Definitions only; the quotations are document 01's.
use Rattle.std.specs.Prelude.{◌≡◌, cond, List, [], ◌∷◌, ◌++◌, ℕ, zero, suc, ◌*◌, ltb, eqb, length, Float}
use Rattle.std.specs.Prelude.{Result, Ok, Err}
use Rattle.std.specs.Float.{binary32}
use Rattle.std.specs.Float.Ieee.{to_bits}
use Rattle.wire.specs.Bytes.{bytes_of, write_at}
use Rattle.refusals.specs.Numbers.{accepted, short_output}
use Rattle.refusals.specs.Told.{given, Told, alone, at_entry}
use Rattle.quad.specs.declared.QuadMixer.{QuadMixer}
use Rattle.quad.specs.Mixes.{after_plain, after_thrust_floor, after_priority, after_airmode, after_rotor_out}
use Rattle.quad.specs.Mixes.{PlainGives, ThrustFloorGives, PriorityGives, AirmodeGives, RotorOutGives}
use Rattle.entries.specs.declared.command.Command.{Command}
use Rattle.entries.specs.declared.command.Command.TheVariants.{Plain, ThrustFloor, Priority, Airmode, RotorOut}
use Rattle.entries.specs.Layout.{count_of, answer_size}
use Rattle.entries.specs.Entry.{command_at}
use Rattle.sheet.specs.declared.Refused.{Refused}
use Rattle.sheet.specs.Table.{judged, told_by}

-- ---- one command

-- the state after the call of a command's mix
unfoldable pub called : QuadMixer → Command → QuadMixer
called q (Plain d) = after_plain q d.torque d.thrust
called q (ThrustFloor d floor) = after_thrust_floor q d.torque d.thrust floor
called q (Priority d floor) = after_priority q d.torque d.thrust floor
called q (Airmode d floor) = after_airmode q d.torque d.thrust floor
called q (RotorOut failed d floor) = after_rotor_out q failed d.torque d.thrust floor

-- what the mix gives: that state, and its promises of it
unfoldable pub Gives : QuadMixer → Command → QuadMixer → Type 0
Gives q (Plain d) = PlainGives q d.torque d.thrust
Gives q (ThrustFloor d floor) = ThrustFloorGives q d.torque d.thrust floor
Gives q (Priority d floor) = PriorityGives q d.torque d.thrust floor
Gives q (Airmode d floor) = AirmodeGives q d.torque d.thrust floor
Gives q (RotorOut failed d floor) = RotorOutGives q failed d.torque d.thrust floor

-- ---- the commands, one after another

-- the commands of `left` entries from entry i on, and of all
unfoldable pub commands_from : List ℕ → ℕ → ℕ → List Command
commands_from s i zero = []
commands_from s i (suc left) = command_at s i ∷ commands_from s (suc i) left

abbrev pub commands_of : List ℕ → List Command
commands_of s = commands_from s 0 (count_of s)

-- the state after them
unfoldable pub ran : QuadMixer → List Command → QuadMixer
ran q [] = q
ran q (c ∷ cs) = ran (called q c) cs

-- every call keeps what its mix promises
unfoldable pub EachKeeps : QuadMixer → List Command → Type 0
EachKeeps q [] = Unit {0}
EachKeeps q (c ∷ cs) = Gives q c (called q c) × EachKeeps (called q c) cs

-- ---- the output

-- each float as its four bytes, the least first; a NaN is 7fc00000 (`nan_written`)
unfoldable pub float_bytes : List Float → List ℕ
float_bytes [] = []
float_bytes (x ∷ xs) = bytes_of 4 (to_bits binary32 x) ++ float_bytes xs

-- "20 bytes [...]: four motors, then the recorded scale after that call"
abbrev pub answer_of : QuadMixer → List ℕ
answer_of q = float_bytes (q.last_motors ++ (q.last_torque_scale ∷ []))

unfoldable pub answers_of : QuadMixer → List Command → List ℕ
answers_of q [] = []
answers_of q (c ∷ cs) = answer_of (called q c) ++ answers_of (called q c) cs

-- ---- the run

-- 1 to 8, then "output under 20k bytes", for an output of so many
unfoldable pub judged_for : List ℕ → ℕ → Told
judged_for s room =
    at_entry (judged s).number (judged s).of_entry (alone (given (ltb room (answer_size * count_of s)) short_output))

-- a run from a state with an output: "On a refusal the output and state are unchanged"; else the state is that after
-- the commands, each answer stands at its place, and "Bytes past 20k stay". Of an accepted sheet each call whose answer
-- is written keeps what its mix promises.
pub record Ran (s : List ℕ) (before : QuadMixer) (out : List ℕ)
    (verdict : Result Unit Refused) (after : QuadMixer) (written : List ℕ) : Type 0 where
  pub told : told_by verdict ≡ judged_for s (length out)
  pub state : after ≡ cond (eqb (judged_for s (length out)).number accepted) (ran before (commands_of s)) before
  pub output : written
      ≡ cond (eqb (judged_for s (length out)).number accepted) (write_at out 0 (answers_of before (commands_of s))) out
  pub keeps : (judged_for s (length out)).number ≡ accepted → EachKeeps before (commands_of s)

-- what the answer of a run says: what the sheet is told, and the state afterwards, which where it is refused is the one
-- before, since then none comes back
abbrev pub verdict_of : Result QuadMixer Refused → Result Unit Refused
verdict_of (Ok after) = Ok tt
verdict_of (Err r) = Err r

abbrev pub state_after : QuadMixer → Result QuadMixer Refused → QuadMixer
state_after before (Ok after) = after
state_after before (Err r) = before

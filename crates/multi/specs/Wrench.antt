-- What the functions of this crate answer to a wrench (document 01, 'Any airframe': "`Mixer` (001)"). Definitions only;
-- the quotations are document 01's.
use Rattle.std.specs.Prelude.{◌≡◌, cond, List, ℕ, length, get_or, Float, Result, Ok, Err, ⊤}
use Rattle.std.specs.Float.{nan}
use Rattle.rules.specs.Rows.{Row, rows_of}
use Rattle.rules.specs.Multi.{wrench_motors, rows_refused}
use Rattle.refusals.specs.Numbers.{accepted, bad_rows}
use Rattle.rules.specs.Promises.{InUnit}
use Rattle.multi.specs.declared.Wrench.{Wrench}
use Rattle.multi.specs.declared.BadRows.{BadRows}

-- the wrench that four floats are: thrust, roll, pitch and yaw
abbrev pub wrench : List Float → Wrench
wrench v = record { thrust = get_or v 0 nan; roll = get_or v 1 nan; pitch = get_or v 2 nan; yaw = get_or v 3 nan }

-- what `mix` answers: the outputs are written, or they stay as they were
abbrev pub MixAnswer : Type 0
MixAnswer = Result ⊤ BadRows

-- the paper's number for each case of the answer
abbrev pub mix_number : MixAnswer → ℕ
mix_number (Ok written) = accepted
mix_number (Err bad) = bad_rows

abbrev pub motors_of : Wrench → List Row → List Float
motors_of w rows = wrench_motors rows w.thrust w.roll w.pitch w.yaw

-- the motors of these rows, by bits, and "0..1" of each
pub record Allocated (rows : List Row) (w : Wrench) (motors : List Float) : Type 0 where
  pub is : motors ≡ motors_of w rows
  pub unit : InUnit motors

-- `mix` of a lent run and lent outputs: number 10 and the outputs as they were, or number 0 and the motors of the run's
-- rows
pub record RowsMixed (run : List Float) (w : Wrench) (before : List Float) (answer : MixAnswer) (after : List Float)
    : Type 0 where
  pub number : mix_number answer ≡ cond (rows_refused (length run) (length before)) bad_rows accepted
  pub output : after ≡ cond (rows_refused (length run) (length before)) before (motors_of w (rows_of run))
  pub unit : mix_number answer ≡ accepted → InUnit after

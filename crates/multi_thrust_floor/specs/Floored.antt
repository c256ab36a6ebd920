-- What the functions of this crate answer to a wrench and a floor (document 02, K6). The rule is that of the quad over
-- these rows (`rules/specs/ThrustFloor`), and so are the promises. Definitions only; the quotations are document 02's.
use Rattle.std.specs.Prelude.{◌≡◌, cond, List, [], ◌∷◌, ℕ, length, Float, Result, Ok, Err}
use Rattle.rules.specs.Rows.{Row, rows_of}
use Rattle.rules.specs.Multi.{rows_refused}
use Rattle.refusals.specs.Numbers.{accepted, bad_rows}
use Rattle.rules.specs.ThrustFloor.{thrust_floor_motors, thrust_floor_scale}
use Rattle.rules.specs.Promises.{ThrustFloorKeeps}
use Rattle.multi.specs.declared.Wrench.{Wrench}
use Rattle.multi.specs.declared.BadRows.{BadRows}

-- the torque of a wrench, as the rules take it
abbrev pub wrench_torque : Wrench → List Float
wrench_torque w = w.roll ∷ w.pitch ∷ w.yaw ∷ []

-- "the thrust-floor rule over lent rows: collective as in the quad, delta the three torque products, each torque first
-- treated as the quad's is, summed and treated, one fit scale over all rotors, floor clamp"
abbrev pub floored_motors : List Row → Wrench → Float → List Float
floored_motors rows w floor = thrust_floor_motors rows (wrench_torque w) w.thrust floor

abbrev pub floored_scale : List Row → Wrench → Float → Float
floored_scale rows w floor = thrust_floor_scale rows (wrench_torque w) w.thrust floor

-- what `mix` answers: the outputs are written, and this is the scale that their torque was given at; or they stay as
-- they were, and there is no scale
abbrev pub FloorAnswer : Type 0
FloorAnswer = Result Float BadRows

-- the paper's number for each case of the answer, and the scale that comes with it: none with a refusal
abbrev pub floor_number : FloorAnswer → ℕ
floor_number (Ok s) = accepted
floor_number (Err bad) = bad_rows

abbrev pub scale_answered : FloorAnswer → List Float
scale_answered (Ok s) = s ∷ []
scale_answered (Err bad) = []

-- the motors and the scale of these rows, by bits, and "the range, the fitting clause and the order clause of demand 3"
pub record Floored (rows : List Row) (w : Wrench) (floor : Float) (motors : List Float) (scale : Float) : Type 0 where
  pub is : motors ≡ floored_motors rows w floor
  pub scale_is : scale ≡ floored_scale rows w floor
  pub keeps : ThrustFloorKeeps rows (wrench_torque w) w.thrust floor motors scale

-- `mix` of a lent run and lent outputs: number 10, no scale, and the outputs as they were; or number 0, and the scale
-- and the motors of the run's rows, with what is promised of them
pub record RowsFloored (run : List Float) (w : Wrench) (floor : Float) (before : List Float)
    (answer : FloorAnswer) (after : List Float) : Type 0 where
  pub number : floor_number answer ≡ cond (rows_refused (length run) (length before)) bad_rows accepted
  pub scale : scale_answered answer
      ≡ cond (rows_refused (length run) (length before)) [] (floored_scale (rows_of run) w floor ∷ [])
  pub output : after ≡ cond (rows_refused (length run) (length before)) before (floored_motors (rows_of run) w floor)
  pub keeps : (s : Float) → scale_answered answer ≡ s ∷ []
      → ThrustFloorKeeps (rows_of run) (wrench_torque w) w.thrust floor after s

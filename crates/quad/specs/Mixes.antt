-- What each mix of the quad gives from the state before it (document 01, 'The five quad mixes'): the state after it, of
-- its rule's motors and the recorded scale, and with that what is promised of it. The contracts cite these, on a state
-- by value, on a lent one and on its floats alike, and so does the run of a sheet. Each takes the state before, also
-- where nothing that is given depends on it, so that they are cited alike. Definitions only; the quotations are
-- document 01's.
use Rattle.std.specs.Prelude.{List, ℕ, Float}
use Rattle.binary32.specs.Arithmetic.{1f}
use Rattle.rules.specs.Rows.{quad_rows}
use Rattle.rules.specs.Plain.{plain_motors}
use Rattle.rules.specs.ThrustFloor.{thrust_floor_motors, thrust_floor_scale}
use Rattle.rules.specs.Priority.{priority_motors}
use Rattle.rules.specs.Airmode.{airmode_motors}
use Rattle.rules.specs.RotorOut.{rotor_out_motors}
use Rattle.rules.specs.Promises.{PlainKeeps, ThrustFloorKeeps, PriorityKeeps, AirmodeKeeps, RotorOutKeeps}
use Rattle.quad.specs.declared.QuadMixer.{QuadMixer}
use Rattle.quad.specs.State.{state, QuadMixed}

-- ---- plain, priority and airmode "don't touch the recorded scale"

abbrev pub after_plain : QuadMixer → List Float → Float → QuadMixer
after_plain before torque thrust = state (plain_motors quad_rows torque thrust) before.last_torque_scale

abbrev pub PlainGives : QuadMixer → List Float → Float → QuadMixer → Type 0
PlainGives before torque thrust =
    QuadMixed (after_plain before torque thrust) (λ motors scale. PlainKeeps torque thrust motors)

abbrev pub after_priority : QuadMixer → List Float → Float → Float → QuadMixer
after_priority before torque thrust floor =
    state (priority_motors quad_rows torque thrust floor) before.last_torque_scale

abbrev pub PriorityGives : QuadMixer → List Float → Float → Float → QuadMixer → Type 0
PriorityGives before torque thrust floor =
    QuadMixed (after_priority before torque thrust floor)
    (λ motors scale. PriorityKeeps quad_rows torque thrust floor motors)

abbrev pub after_airmode : QuadMixer → List Float → Float → Float → QuadMixer
after_airmode before torque thrust idle = state (airmode_motors quad_rows torque thrust idle) before.last_torque_scale

abbrev pub AirmodeGives : QuadMixer → List Float → Float → Float → QuadMixer → Type 0
AirmodeGives before torque thrust idle =
    QuadMixed (after_airmode before torque thrust idle)
    (λ motors scale. AirmodeKeeps quad_rows torque thrust idle motors)

-- ---- thrust-floor: "The scale is recorded; it may be -0."

abbrev pub after_thrust_floor : QuadMixer → List Float → Float → Float → QuadMixer
after_thrust_floor before torque thrust floor =
    state (thrust_floor_motors quad_rows torque thrust floor) (thrust_floor_scale quad_rows torque thrust floor)

abbrev pub ThrustFloorGives : QuadMixer → List Float → Float → Float → QuadMixer → Type 0
ThrustFloorGives before torque thrust floor =
    QuadMixed (after_thrust_floor before torque thrust floor) (ThrustFloorKeeps quad_rows torque thrust floor)

-- ---- rotor-out "records scale 1 always"

abbrev pub after_rotor_out : QuadMixer → ℕ → List Float → Float → Float → QuadMixer
after_rotor_out before failed torque thrust floor = state (rotor_out_motors failed torque thrust floor) 1f

abbrev pub RotorOutGives : QuadMixer → ℕ → List Float → Float → Float → QuadMixer → Type 0
RotorOutGives before failed torque thrust floor =
    QuadMixed (after_rotor_out before failed torque thrust floor) (λ motors scale. RotorOutKeeps failed floor motors)

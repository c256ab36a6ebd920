-- The mix of a frame of any rows, `MixerN`'s (document 01, 'Any airframe'). Definitions only; the quotations are
-- document 01's.
use Rattle.std.specs.Prelude.{List, map, ℕ, Float}
use Rattle.number.specs.Treat.{treated}
use Rattle.rules.specs.Rows.{Row}
use Rattle.rules.specs.Plain.{raw_sums, lower_limited}

-- "`MixerN`: eight rows"
abbrev pub max_rotors : ℕ
max_rotors = 8

-- "Each sum is treated separately, then the plain shift, then limiting to 0..1." The last two are plain's own end:
-- limiting to 0..1 is the floor clamp at +0 (`clamp_at_zero` in proofs/Clamp). Thrust and torque are treated, as in
-- plain.
unfoldable pub frame_motors : List Row → List Float → Float → List Float
frame_motors rows torque thrust = lower_limited (map treated (raw_sums rows torque thrust))

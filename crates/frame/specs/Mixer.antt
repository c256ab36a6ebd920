-- `MixerN` and what its mix answers (document 01, 'Any airframe'). Definitions only; the quotations are document 01's.
use Rattle.std.specs.Prelude.{◌≡◌, List, ℕ, min, Float}
use Rattle.rules.specs.Rows.{Row, rows_of}
use Rattle.rules.specs.Frame.{max_rotors, frame_motors}
use Rattle.rules.specs.Promises.{FrameKeeps}
use Rattle.frame.specs.declared.MixerN.{MixerN}

-- "`new` cuts a count over 8 to 8 and checks nothing else"
abbrev pub made : List Float → ℕ → MixerN
made matrix count = record { mix = matrix; n = min count max_rotors }

-- "`mix` and `achieved_wrench` use all eight rows whatever the count is"
abbrev pub rows_in : MixerN → List Row
rows_in mixer = rows_of mixer.mix

-- the rule's motors, by bits, and what it promises of them
pub record FrameMixed (rows : List Row) (torque : List Float) (thrust : Float) (motors : List Float) : Type 0 where
  pub is : motors ≡ frame_motors rows torque thrust
  pub keeps : FrameKeeps rows torque thrust motors

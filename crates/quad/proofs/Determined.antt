-- Each public contract determines its answer: two results that satisfy it are one, by bits. A contract of this crate
-- either says what the answer equals, or is `QuadMixed`, whose `is` does. Assumes nothing.
use mathlib.Core.Path.{◌≡◌}
use mathlib.Core.List.{List}
use Prim.Native.Nat.{ℕ}
use lib.Ieee.{Float}
use Rattle.rules.specs.Rows.{quad_rows}
use Rattle.rules.specs.Torque.{torque_of}
use Rattle.general.proofs.Determined.{Determined, equal_determined}
use Rattle.quad.specs.declared.QuadMixer.{QuadMixer}
use Rattle.quad.specs.Mixes.{PlainGives, ThrustFloorGives, PriorityGives, AirmodeGives, RotorOutGives}
use Rattle.quad.specs.State.{fresh, QuadMixed}

mixed_determined : {after : QuadMixer} {Keeps : List Float → Float → Type 0} → Determined (QuadMixed after Keeps)
mixed_determined r q h k = equal_determined r q h.is k.is

-- ---- the public functions

module _ (torque motors : List Float) (thrust floor : Float) (failed : ℕ) (before : QuadMixer) where
  pub new_determined : Determined (λ r. r ≡ fresh)
  new_determined = equal_determined

  pub last_motors_determined : Determined (λ r. r ≡ before.last_motors)
  last_motors_determined = equal_determined

  pub last_torque_scale_determined : Determined (λ r. r ≡ before.last_torque_scale)
  last_torque_scale_determined = equal_determined

  pub last_torque_determined : Determined (λ r. r ≡ before.last_torque)
  last_torque_determined = equal_determined

  pub mix_determined : Determined (PlainGives before torque thrust)
  mix_determined = mixed_determined

  pub mix_thrust_floor_determined : Determined (ThrustFloorGives before torque thrust floor)
  mix_thrust_floor_determined = mixed_determined

  pub mix_priority_determined : Determined (PriorityGives before torque thrust floor)
  mix_priority_determined = mixed_determined

  pub mix_airmode_determined : Determined (AirmodeGives before torque thrust floor)
  mix_airmode_determined = mixed_determined

  pub mix_rotor_out_determined : Determined (RotorOutGives before failed torque thrust floor)
  mix_rotor_out_determined = mixed_determined

  pub motors_to_torque_signs_determined : Determined (λ r. r ≡ torque_of quad_rows motors)
  motors_to_torque_signs_determined = equal_determined

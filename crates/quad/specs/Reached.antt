-- The states that calls reach from a fresh one (document 02, K7: "In any state reached by calls from a fresh one").
-- What a call makes of a state is said by the contracts. Definitions only.
use Rattle.std.specs.Prelude.{◌≡◌, List, ℕ, Float}
use Rattle.quad.specs.declared.QuadMixer.{QuadMixer}
use Rattle.quad.specs.Mixes.{PlainGives, ThrustFloorGives, PriorityGives, AirmodeGives, RotorOutGives}
use Rattle.quad.specs.State.{fresh}

-- one of the five mixes takes the state before to the state after, with any arguments
pub data MixedTo (before after : QuadMixer) : Type 0 where
  by_plain : (torque : List Float) (thrust : Float) → PlainGives before torque thrust after → MixedTo before after
  by_thrust_floor : (torque : List Float) (thrust floor : Float) → ThrustFloorGives before torque thrust floor after
      → MixedTo before after
  by_priority : (torque : List Float) (thrust floor : Float) → PriorityGives before torque thrust floor after
      → MixedTo before after
  by_airmode : (torque : List Float) (thrust idle : Float) → AirmodeGives before torque thrust idle after
      → MixedTo before after
  by_rotor_out : (failed : ℕ) (torque : List Float) (thrust floor : Float)
      → RotorOutGives before failed torque thrust floor after → MixedTo before after

-- a state is reached if it is fresh, or if a call takes a reached one to it; `Call` says which calls there are
pub data ReachedBy (Call : QuadMixer → QuadMixer → Type 0) : QuadMixer → Type 0 where
  new : {q : QuadMixer} → q ≡ fresh → ReachedBy Call q
  next : {before after : QuadMixer} → ReachedBy Call before → Call before after → ReachedBy Call after

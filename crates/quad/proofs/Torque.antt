-- The stored sums are those of the motors (document 02, K7): in a fresh state, after any mix whatever the state before
-- was, and so in every state that is reached by calls which keep it so. After a mix none of them is a NaN. Assumes
-- nothing.
use mathlib.Core.Path.{refl, sym, subst}
use lib.Dec.{T}
use lib.Ieee.{Float, binary32, fits, add, mul, of_bits}
use Rattle.general.specs.Each.{Each}
use Rattle.binary32.proofs.Magnitude.{Finite}
use Rattle.rules.specs.Rows.{quad_rows}
use Rattle.rules.specs.Torque.{summed, torque_of}
use Rattle.rules.specs.Promises.{InUnit}
use Rattle.rules.proofs.TorqueFinite.{unit_torque_finite}
use Rattle.quad.specs.declared.QuadMixer.{QuadMixer}
use Rattle.quad.specs.State.{fresh, HoldsTorque}
use Rattle.quad.specs.Reached.{MixedTo, by_plain, by_thrust_floor, by_priority, by_airmode, by_rotor_out}
use Rattle.quad.specs.Reached.{ReachedBy, new, next}

-- four +0 give three +0: a product of -1 and +0 is -0, and +0 and -0 add up to +0
pub fresh_holds : HoldsTorque fresh
unfolding quad_rows summed torque_of add mul of_bits
fresh_holds = refl

pub mixed_to_holds : {before after : QuadMixer} → MixedTo before after → HoldsTorque after
mixed_to_holds (by_plain torque thrust gives) = gives.torque
mixed_to_holds (by_thrust_floor torque thrust floor gives) = gives.torque
mixed_to_holds (by_priority torque thrust floor gives) = gives.torque
mixed_to_holds (by_airmode torque thrust idle gives) = gives.torque
mixed_to_holds (by_rotor_out failed torque thrust floor gives) = gives.torque

pub reached_by_holds : {Call : QuadMixer → QuadMixer → Type 0} {q : QuadMixer}
    → ((before after : QuadMixer) → HoldsTorque before → Call before after → HoldsTorque after)
    → ReachedBy Call q → HoldsTorque q
reached_by_holds kept (new e) = subst HoldsTorque (sym e) fresh_holds
reached_by_holds kept (next {before} {after} reached call) = kept before after (reached_by_holds kept reached) call

-- ---- and no NaN is among them

mixed_to_unit : {before after : QuadMixer} → MixedTo before after → InUnit after.last_motors
mixed_to_unit (by_plain torque thrust gives) = gives.keeps.unit
mixed_to_unit (by_thrust_floor torque thrust floor gives) = gives.keeps.unit
mixed_to_unit (by_priority torque thrust floor gives) = gives.keeps.unit
mixed_to_unit (by_airmode torque thrust idle gives) = gives.keeps.unit
mixed_to_unit (by_rotor_out failed torque thrust floor gives) = gives.keeps.unit

-- every mix promises motors in 0..1, and the sums of such are finite: so the stored ones are equal to them by bits
pub mixed_to_finite : {before after : QuadMixer} → MixedTo before after
    → Each (λ (m : Float). T (fits binary32 m)) after.last_motors → Each (Finite binary32) after.last_torque
mixed_to_finite {after} mixed f32s =
    subst (Each (Finite binary32)) (sym (mixed_to_holds mixed))
    (unit_torque_finite after.last_motors f32s (mixed_to_unit mixed))

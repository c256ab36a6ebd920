-- What a mix answers, put together: the promises are laws about the rules, so they hold of any state that the rules
-- give; and a state of motors and a scale is made with the sums of these motors. Assumes nothing.
use mathlib.Core.Path.{◌≡◌, refl, sym, subst}
use mathlib.Core.List.{List}
use lib.Ieee.{Float}
use Rattle.quad.specs.declared.QuadMixer.{QuadMixer}
use Rattle.quad.specs.State.{state, HoldsTorque, QuadMixed}

pub mixed : {motors : List Float} {scale : Float} {Keeps : List Float → Float → Type 0} {q : QuadMixer}
    → q ≡ state motors scale → Keeps motors scale → QuadMixed (state motors scale) Keeps q
mixed {Keeps} e k =
    record {
      is = e;
      keeps = subst (λ (q : QuadMixer). Keeps q.last_motors q.last_torque_scale) (sym e) k;
      torque = subst HoldsTorque (sym e) refl;
    }

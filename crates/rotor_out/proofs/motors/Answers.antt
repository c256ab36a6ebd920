-- `rotor_out::motors` meets its contract: the limited command, allotted. Assumes nothing.
use mathlib.Core.Path.{sym, subst}
use lib.Dec.{T}
use lib.Ieee.{Float}
use lib.Ieee.Scale.{finite}
use Rattle.rules.specs.RotorOut.{rotor_out_motors}
use Rattle.rules.proofs.Clamp.{limited_floor}
use Rattle.rotor_out.proofs.motors.Goals as goal

pub invariant_of-asked : goal.invariant_of-asked
invariant_of-asked c =
    record {
      finite_floor =
          subst (λ (x : Float). T (finite x)) (sym c.limit.ensures)
          (limited_floor c.args.floor (rw c.well_formed.1.1.1.0.1 tt)).finite.finite;
    }

pub returns : goal.returns
unfolding rotor_out_motors
returns c =
    simp (
      c.allotted.ensures,
      c.tilt-2.ensures,
      c.tilt.ensures,
      c.limit-2.ensures,
      c.limit.ensures,
    )

-- `rotor_out::tilt` meets its contract: the ends -8 and 8 are in order. Assumes nothing.
use mathlib.Core.Path.{◌≡◌, refl}
use mathlib.Core.Bool.{true}
use lib.Ieee.{binary32, le, neg, of_bits}
use lib.Ieee.Bits.{of_bits-fits}
use Rattle.binary32.proofs.Magnitude.{Finite, finite_number}
use Rattle.binary32.proofs.Operations.{neg_finite}
use Rattle.rules.specs.RotorOut.{8f, tilt}
use Rattle.rules.proofs.Clamp.{in_turn_clamped, treated_finite}
use Rattle.rotor_out.proofs.tilt.Goals as goal

8-finite : Finite binary32 8f
unfolding of_bits
8-finite = record { fits = of_bits-fits binary32 0x4100_0000; finite = tt }

in_order : le (neg 8f) 8f ≡ true
unfolding of_bits neg le
in_order = refl

pub returns : goal.returns
unfolding tilt
returns c =
    let treated = finite_number (treated_finite c.args.x (rw c.well_formed.0.1 tt)) in
    simp (c.clamp_in_turn.ensures, c.sanitise.ensures)
    (in_turn_clamped (finite_number (neg_finite 8-finite)) (finite_number 8-finite) in_order treated)

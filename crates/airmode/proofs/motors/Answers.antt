-- `airmode::motors` meets its contract: the deltas, added to the thrust, then shifted. Assumes nothing.
use mathlib.Core.Path.{sym, subst}
use Rattle.binary32.specs.Arithmetic.{0f, 1f}
use Rattle.binary32.specs.Range.{Between}
use Rattle.rules.specs.Airmode.{airmode_motors}
use Rattle.rules.proofs.Clamp.{limited_floor}
use Rattle.airmode.proofs.motors.Goals as goal

pub shifted-requires : goal.shifted-requires
shifted-requires c =
    subst (Between 0f 1f) (sym c.limit-low.ensures)
    (limited_floor c.args.idle (rw c.well_formed.1.1.0.1 tt)).between

pub returns : goal.returns
unfolding airmode_motors
returns c =
    simp (
      c.shifted.ensures,
      c.unshifted.ensures,
      c.deltas.ensures,
      c.limit-low.ensures,
      c.limit-t.ensures,
    )

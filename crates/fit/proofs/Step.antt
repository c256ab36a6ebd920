-- One step of the walk as the code computes it: the limit as one quotient for both signs of a delta, and 1 where there
-- is none. Assumes nothing.
use mathlib.Core.Path.{◌≡◌, refl}
use mathlib.Core.Bool.{Bool, true, false, ◌&&◌, ◌||◌, cond}
use lib.Ieee.{Float, lt, neg}
use Rattle.binary32.specs.Arithmetic.{◌-f◌, ◌/f◌, 1f, small}
use Rattle.binary32.proofs.Order.{lt_minus}
use Rattle.fit.specs.Cut.{limit_of}
use Rattle.fit.specs.Fit.{limits, motor_limit, tightened}

-- the delta's size where it is farther than `small` from zero, and the quotient by it
abbrev pub size_of : Float → Float
size_of d = cond (lt small d) d (neg d)

abbrev pub quotient : Float → Float → Float → Float
quotient floor b d = cond (lt small d) (1f -f b) (b -f floor) /f size_of d

pub one_quotient : (floor b d : Float) → cond (lt small (size_of d)) (quotient floor b d) 1f ≡ limit_of floor b d
unfolding limits motor_limit limit_of
one_quotient floor b d = go (lt small d) refl
  where
    over : Bool → Float
    over u = cond u (1f -f b) (b -f floor) /f cond u d (neg d)

    go : (u : Bool) → lt small d ≡ u
        → cond (lt small (cond u d (neg d))) (over u) 1f
        ≡ cond (u || lt d (neg small)) (cond u ((1f -f b) /f d) ((b -f floor) /f neg d)) 1f
    go true e = rw e
    go false e = rw (lt_minus small d)

-- a limit of 1 takes the place of no scale that is at most 1
pub limited_step : (floor s b d : Float) → lt 1f s ≡ false
    → cond (lt (limit_of floor b d) s) (limit_of floor b d) s ≡ tightened floor s b d
unfolding limit_of tightened
limited_step floor s b d h = go (limits d)
  where
    l : Float
    l = motor_limit floor b d

    go : (p : Bool) → cond (lt (cond p l 1f) s) (cond p l 1f) s ≡ cond (p && lt l s) l s
    go true = refl
    go false = rw h

-- What the code asks of a motor by itself, before it looks for the smallest limit. Private functions cite these;
-- `Scaled`, which is what the fit scale is held to, does not. Definitions only.
use Rattle.std.specs.Prelude.{Bool, false, ◌||◌, cond, List, [], ◌∷◌, Float}
use Rattle.std.specs.Float.Ieee.{lt}
use Rattle.binary32.specs.Arithmetic.{1f}
use Rattle.fit.specs.Fit.{limits, motor_limit}

-- the limit of one motor, or 1, which is none
unfoldable pub limit_of : Float → Float → Float → Float
limit_of floor b d = cond (limits d) (motor_limit floor b d) 1f

-- whether some motor's limit is under 1, as far as the shorter list goes
unfoldable pub is_cut : Float → List Float → List Float → Bool
is_cut floor [] ds = false
is_cut floor (b ∷ bs) [] = false
is_cut floor (b ∷ bs) (d ∷ ds) = lt (limit_of floor b d) 1f || is_cut floor bs ds

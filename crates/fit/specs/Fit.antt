-- The fit scale: the smallest of the limits that the motors put on their deltas, at most 1 (document 01, 'Treating the
-- numbers': "Fit scale" and "Small"), over any count of motors. Definitions only; the quotations are document 01's.
use Rattle.std.specs.Prelude.{◌≡◌, Bool, not, ◌&&◌, ◌||◌, cond, List, [], ◌∷◌, T, Float}
use Rattle.std.specs.Float.Ieee.{lt, neg}
use Rattle.std.specs.Float.Ieee.Scale.{finite}
use Rattle.binary32.specs.Arithmetic.{◌-f◌, ◌/f◌, 0f, 1f, small}
use Rattle.binary32.specs.Range.{Between, SumWithin}

-- whether a delta puts a limit on the scale: "a delta within [small] of zero, ends included, puts no limit on a scale"
unfoldable pub limits : Float → Bool
limits d = lt small d || lt d (neg small)

-- the limit of one motor: "for d over small the limit is (1 - b) / d; for d under -small it is (b - floor) / (-d)"
unfoldable pub motor_limit : Float → Float → Float → Float
motor_limit floor b d = cond (lt small d) ((1f -f b) /f d) ((b -f floor) /f neg d)

-- the value held after one more motor: "a limit replaces the value held only if it is strictly smaller"
unfoldable pub tightened : Float → Float → Float → Float → Float
tightened floor s b d = cond (limits d && lt (motor_limit floor b d) s) (motor_limit floor b d) s

-- "motors in order": the walk over bases and deltas, as far as the shorter of the two goes
unfoldable pub walk : Float → Float → List Float → List Float → Float
walk floor s [] ds = s
walk floor s (b ∷ bs) [] = s
walk floor s (b ∷ bs) (d ∷ ds) = walk floor (tightened floor s b d) bs ds

-- "a negative or non-finite end value becomes +0"
unfoldable pub settled : Float → Float
settled s = cond (lt s 0f || not (finite s)) 0f s

-- "start at 1"
unfoldable pub fit_scale : Float → List Float → List Float → Float
fit_scale floor bs ds = settled (walk floor 1f bs ds)

-- ---- what the scale promises

-- R holds of each base and its delta, as far as the shorter list goes
abbrev pub EachMotor : (Float → Float → Type 0) → List Float → List Float → Type 0
EachMotor R [] ds = Unit {0}
EachMotor R (b ∷ bs) [] = Unit {0}
EachMotor R (b ∷ bs) (d ∷ ds) = R b d × EachMotor R bs ds

-- What `scale` answers: the definition; finite and in 0..1, whatever the bases, the deltas and the floor are; and
-- exactly 1 where the floor is finite and each base plus its delta, taken exactly, lies in floor..1.
pub record Scaled (floor : Float) (bs ds : List Float) (r : Float) : Type 0 where
  pub is : r ≡ fit_scale floor bs ds
  pub number : T (finite r)
  pub bounded : Between 0f 1f r
  pub fitting : T (finite floor) → EachMotor (SumWithin floor 1f) bs ds → r ≡ 1f

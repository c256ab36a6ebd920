-- What the code does in the place of a clamp where it knows that the ends are in order. The rules do not know it.
-- Definitions only.
use Rattle.std.specs.Prelude.{cond, Float}
use Rattle.std.specs.Float.Ieee.{lt}

-- x held to lo..hi, its ends looked at in turn: the lower one in what the upper left
unfoldable pub in_turn : Float → Float → Float → Float
in_turn x lo hi = let low = cond (lt hi x) hi x in cond (lt low lo) lo low

-- Treating and clamping one number (document 01, 'Treating the numbers'). Each takes every value of an f32. Definitions
-- only.
use Rattle.std.specs.Prelude.{cond, Float}
use Rattle.std.specs.Float.Ieee.{lt, is_nan}
use Rattle.std.specs.Float.Ieee.Scale.{finite}
use Rattle.binary32.specs.Arithmetic.{0f, 1f}

-- "Treated torque or thrust: NaN and infinities become +0."
unfoldable pub treated : Float → Float
treated x = cond (finite x) x 0f

-- x held to lo..hi: under lo becomes lo, over hi becomes hi. Equal to an end is not outside it, so a -0 stays at an end
-- of +0.
unfoldable pub clamped : Float → Float → Float → Float
clamped x lo hi = cond (lt x lo) lo (cond (lt hi x) hi x)

-- "Limited thrust or floor: treated, then under 0 becomes +0 and over 1 becomes 1. A -0 stays -0."
unfoldable pub limited : Float → Float
limited x = clamped (treated x) 0f 1f

-- "Floor clamp of x: non-finite, or x under the floor, gives the floor; over 1 gives 1. So +infinity gives the floor,
-- not 1."
unfoldable pub floor_clamp : Float → Float → Float
floor_clamp x floor = cond (finite x) (clamped x floor 1f) floor

-- "`clamp01` of 001: NaN gives 0, +infinity gives 1, -0 stays."
unfoldable pub unit_clamp : Float → Float
unit_clamp x = cond (is_nan x) 0f (clamped x 0f 1f)

-- The airmode mix (document 01, 'The five quad mixes', 4), over any frame. Definitions only; the quotations are
-- document 01's.
use Rattle.std.specs.Prelude.{◌&&◌, cond, List, map, Float}
use Rattle.std.specs.Float.Ieee.{lt, neg}
use Rattle.binary32.specs.Arithmetic.{◌+f◌, ◌-f◌, ◌*f◌, ◌/f◌, 0f, 1f, small}
use Rattle.number.specs.Treat.{treated, limited, floor_clamp}
use Rattle.rules.specs.Rows.{Row}
use Rattle.rules.specs.Command.{deltas}
use Rattle.rules.specs.Extremes.{largest, least}

-- "Spread is largest minus least delta, treated, so an overflowed spread is 0."
unfoldable pub spread : List Float → Float
spread ds = treated (largest ds -f least ds)

-- "If spread is over small and over 1 - idle, scale is (1 - idle) / spread, else 1."
unfoldable pub spread_scale : Float → Float → Float
spread_scale idle wide = cond (lt small wide && lt (1f -f idle) wide) ((1f -f idle) /f wide) 1f

-- "Scaled deltas are added to t."
unfoldable pub unshifted : Float → Float → List Float → List Float
unshifted idle t ds = map (λ d. t +f d *f spread_scale idle (spread ds)) ds

-- "Shift: idle - lowest if lowest < idle; else -(highest - 1) if highest > 1; else +0."
unfoldable pub shift : Float → Float → Float → Float
shift idle lowest highest = cond (lt lowest idle) (idle -f lowest) (cond (lt 1f highest) (neg (highest -f 1f)) 0f)

-- "Shift is always added, then floor clamp."
unfoldable pub shifted : Float → List Float → List Float
shifted idle xs = map (λ x. floor_clamp (x +f shift idle (least xs) (largest xs)) idle) xs

-- "collective is t itself, even under the idle floor. Deltas as in 2." Thrust and idle are limited first ('Treating the
-- numbers'; 000, 332-333).
unfoldable pub airmode_motors : List Row → List Float → Float → Float → List Float
airmode_motors rows torque thrust idle =
    shifted (limited idle) (unshifted (limited idle) (limited thrust) (deltas rows torque))

-- The thrust-floor mix (document 01, 'The five quad mixes', 2), over any frame. Definitions only; the quotations are
-- document 01's.
use Rattle.std.specs.Prelude.{List, map, Float}
use Rattle.binary32.specs.Arithmetic.{◌+f◌, ◌*f◌}
use Rattle.number.specs.Treat.{limited, floor_clamp}
use Rattle.fit.specs.Fit.{fit_scale}
use Rattle.rules.specs.Rows.{Row}
use Rattle.rules.specs.Command.{collective, deltas}

-- "Scale: the fit scale with b = base", one base for all
unfoldable pub one_scale : Float → Float → List Float → Float
one_scale floor base ds = fit_scale floor (map (λ d. base) ds) ds

-- "Motor: floor clamp of base + s*d"
unfoldable pub scaled_motor : Float → Float → Float → Float → Float
scaled_motor floor base s d = floor_clamp (base +f s *f d) floor

unfoldable pub scaled_motors : Float → Float → List Float → List Float
scaled_motors floor base ds = map (scaled_motor floor base (one_scale floor base ds)) ds

-- "The scale is recorded; it may be -0."
unfoldable pub thrust_floor_scale : List Row → List Float → Float → Float → Float
thrust_floor_scale rows torque thrust floor = one_scale (limited floor) (collective thrust floor) (deltas rows torque)

unfoldable pub thrust_floor_motors : List Row → List Float → Float → Float → List Float
thrust_floor_motors rows torque thrust floor =
    scaled_motors (limited floor) (collective thrust floor) (deltas rows torque)

-- The priority mix (document 01, 'The five quad mixes', 3), over any frame. Definitions only; the quotations are
-- document 01's.
use Rattle.std.specs.Prelude.{List, map, Float}
use Rattle.binary32.specs.Arithmetic.{◌+f◌, ◌*f◌}
use Rattle.number.specs.Treat.{treated, limited, floor_clamp}
use Rattle.fit.specs.Fit.{fit_scale}
use Rattle.rules.specs.Rows.{Row, roll_of, pitch_of, yaw_of}
use Rattle.rules.specs.Command.{roll, pitch, yaw, collective}

-- "Yaw group: treated yaw product."
unfoldable pub yaw_group : Float → Row → Float
yaw_group y row = treated (yaw_of row *f y)

-- "Roll/pitch group: treated sum of two products."
unfoldable pub roll_pitch_group : Float → Float → Row → Float
roll_pitch_group r p row = treated (roll_of row *f r +f pitch_of row *f p)

-- "Yaw scale: fit scale with b = base + roll/pitch."
unfoldable pub yaw_scale : Float → Float → List Float → List Float → Float
yaw_scale floor base rps ys = fit_scale floor (map (λ rp. base +f rp) rps) ys

-- "Roll/pitch scale: with b = base + scaled yaw."
unfoldable pub roll_pitch_scale : Float → Float → Float → List Float → List Float → Float
roll_pitch_scale floor base sy rps ys = fit_scale floor (map (λ y. base +f sy *f y) ys) rps

-- "Motor: floor clamp of base + scaled roll/pitch + scaled yaw."
unfoldable pub priority_motor : Float → Float → Float → Float → Float → Float → Float
priority_motor floor base srp sy rp y = floor_clamp (base +f srp *f rp +f sy *f y) floor

unfoldable pub priority_motors : List Row → List Float → Float → Float → List Float
priority_motors rows torque thrust floor =
    let low = limited floor in
    let base = collective thrust floor in
    let rp = roll_pitch_group (roll torque) (pitch torque) in
    let y = yaw_group (yaw torque) in
    let sy = yaw_scale low base (map rp rows) (map y rows) in
    let srp = roll_pitch_scale low base sy (map rp rows) (map y rows) in
    map (λ row. priority_motor low base srp sy (rp row) (y row)) rows

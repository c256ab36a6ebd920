-- The mixer that `quad_x` gives holds document 01's rows, so that what `mix` promises of those rows holds of its
-- motors: the first four are plain's, by bits, unless a raw sum of plain is +infinity. Assumes nothing.
use mathlib.Core.Path.{◌≡◌}
use mathlib.Core.List.{List}
use lib.ListN.{take}
use lib.Ieee.{Float}
use Rattle.rules.specs.Rows.{run_of, quad_rows, quad_x_rows}
use Rattle.rules.specs.Plain.{raw_sums, plain_motors}
use Rattle.general.specs.Each.{Each}
use Rattle.rules.specs.Promises.{NotInfinity}
use Rattle.rules.proofs.Rows.{quad_x_rows_lem}
use Rattle.frame.specs.Mixer.{made, rows_in, FrameMixed}

pub quad_x_as_plain : {torque motors : List Float} {thrust : Float}
    → FrameMixed (rows_in (made (run_of quad_x_rows) 4)) torque thrust motors
    → Each NotInfinity (raw_sums quad_rows torque thrust) → take 4 motors ≡ plain_motors quad_rows torque thrust
quad_x_as_plain m h = m.keeps.quad_x quad_x_rows_lem h

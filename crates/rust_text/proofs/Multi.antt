-- The Rust's mixer of any rows, `hex_x` and `octo_coax` are document 01's. Assumes nothing.
use mathlib.Core.Path.{◌≡◌, refl, ◌∙◌}
use mathlib.Core.List.{List}
use Rattle.general.proofs.Lists.{map_same}
use Rattle.rules.specs.Rows.{Row, hex_rows, octo_rows}
use Rattle.rules.specs.Plain.{raw_sum}
use Rattle.rules.specs.Multi.{wrench_motors}
use Rattle.rust_text.specs.Numbers.{clamp01_of001}
use Rattle.rust_text.specs.Multi.{WrenchM, mix_m, hex_x, octo_coax}
use Rattle.rust_text.proofs.Numbers.{clamp01_of_001_is}
use Rattle.rust_text.proofs.Loops.{by_any_rows}

pub mix_of_001_is : (rows : List Row) (w : WrenchM)
    → mix_m rows w ≡ wrench_motors rows w.thrust w.roll w.pitch w.yaw
unfolding mix_m wrench_motors raw_sum
mix_of_001_is rows w =
    by_any_rows (λ row. clamp01_of001 (raw_sum w.thrust w.roll w.pitch w.yaw row)) rows
    ∙ map_same (λ row. clamp01_of_001_is (raw_sum w.thrust w.roll w.pitch w.yaw row)) rows

pub hex_x_is : hex_x ≡ hex_rows
unfolding hex_x hex_rows
hex_x_is = refl

pub octo_coax_is : octo_coax ≡ octo_rows
unfolding octo_coax octo_rows
octo_coax_is = refl

-- `plain::raw_sums` meets its contract: the four sums are those of the quad's rows. Assumes nothing.
use mathlib.Core.Path.{refl, ◌∙◌}
use Rattle.std.proofs.Common.{rules}
use Rattle.general.proofs.Mapped.{mapped, three_mapped}
use Rattle.rules.specs.Rows.{quad_rows}
use Rattle.rules.specs.Plain.{raw_sum, raw_sums}
use Rattle.number.specs.Treat.{treated}
use lib.ListN.{get_or}
use lib.Ieee.{nan}
use Rattle.plain.proofs.raw_sums.Goals as goal

pub returns : goal.returns
unfolding quad_rows raw_sums
returns c =
    let args = c.args in
    let t = c.map.result in
    let is = three_mapped _ _ treated args.torque_body t nan nan (search rules) c.map.ensures.items
    (λ x y q k. search rules) in
    mapped _ _ (raw_sum (treated args.thrust) (get_or t 0 nan) (get_or t 1 nan) (get_or t 2 nan)) 4 quad_rows _ refl
    c.map-2.ensures.items (λ x y q k. search rules)
    ∙ rw (is.0, is.1, is.2) refl

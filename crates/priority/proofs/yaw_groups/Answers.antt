-- `priority::yaw_groups` meets its contract: the four groups are those of the quad's rows. Assumes nothing.
use mathlib.Core.Path.{refl}
use Rattle.std.proofs.Common.{rules}
use Rattle.general.proofs.Mapped.{mapped}
use Rattle.number.specs.Treat.{treated}
use Rattle.rules.specs.Rows.{quad_rows}
use Rattle.rules.specs.Priority.{yaw_group}
use Rattle.priority.proofs.yaw_groups.Goals as goal

pub returns : goal.returns
unfolding quad_rows
returns c =
    mapped _ _ (yaw_group (treated c.args.y)) 4 quad_rows _ refl c.map.ensures.items (λ x z q k. search rules)

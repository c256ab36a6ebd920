-- `priority::roll_pitch_groups` meets its contract: the four groups are those of the quad's rows. Assumes nothing.
use mathlib.Core.Path.{refl}
use Rattle.std.proofs.Common.{rules}
use Rattle.general.proofs.Mapped.{mapped}
use Rattle.number.specs.Treat.{treated}
use Rattle.rules.specs.Rows.{quad_rows}
use Rattle.rules.specs.Priority.{roll_pitch_group}
use Rattle.priority.proofs.roll_pitch_groups.Goals as goal

pub returns : goal.returns
unfolding quad_rows
returns c =
    mapped _ _ (roll_pitch_group (treated c.args.r) (treated c.args.p)) 4 quad_rows _ refl c.map.ensures.items
    (λ x z q k. search rules)

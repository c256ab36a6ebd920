-- `priority::roll_pitch_group` meets its contract: the products are those of `roll_pitch_group`, treated. Assumes
-- nothing.
use Rattle.rules.specs.Priority.{roll_pitch_group}
use Rattle.priority.proofs.roll_pitch_group.Goals as goal

pub returns : goal.returns
unfolding roll_pitch_group
returns c = simp c.sanitise.ensures

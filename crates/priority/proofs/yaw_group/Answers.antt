-- `priority::yaw_group` meets its contract: the product is that of `yaw_group`, treated. Assumes nothing.
use Rattle.rules.specs.Priority.{yaw_group}
use Rattle.priority.proofs.yaw_group.Goals as goal

pub returns : goal.returns
unfolding yaw_group
returns c = simp c.sanitise.ensures

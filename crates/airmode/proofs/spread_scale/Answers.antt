-- `airmode::spread_scale` meets its contract: the two choices are the one of `spread_scale`. Assumes nothing.
use lib.Ieee.{lt}
use Rattle.binary32.specs.Arithmetic.{◌-f◌, ◌/f◌, 1f, small}
use Rattle.number.proofs.Choice.{both}
use Rattle.rules.specs.Airmode.{spread_scale}
use Rattle.airmode.proofs.spread_scale.Goals as goal

pub returns : goal.returns
unfolding spread_scale
returns c =
    let args = c.args in
    let idle = args.idle in
    let range = args.range in
    simp (c.pick-2.ensures, c.pick.ensures)
    (both (lt small range) (lt (1f -f idle) range) ((1f -f idle) /f range) 1f)

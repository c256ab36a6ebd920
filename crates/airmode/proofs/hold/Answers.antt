-- `airmode::hold` meets its contract, by `in_turn_floor_clamped`. Assumes nothing.
use Rattle.binary32.proofs.Range.{zero_finite}
use Rattle.rules.proofs.Clamp.{inside, in_turn_floor_clamped}
use Rattle.airmode.proofs.hold.Goals as goal

pub returns : goal.returns
returns c =
    let floor = inside zero_finite (rw c.well_formed.1.0.1 tt) c.requires in
    simp (c.pick.ensures, c.is_finite.ensures, c.clamp_in_turn-held.ensures)
    (in_turn_floor_clamped c.args.x (rw c.well_formed.0.1 tt) floor)

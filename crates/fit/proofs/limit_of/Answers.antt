-- `fit::limit_of` meets its contract: the three choices give the one quotient of `one_quotient`, or 1. Assumes nothing.
use Rattle.fit.proofs.Step.{one_quotient}
use Rattle.fit.proofs.limit_of.Goals as goal

pub returns : goal.returns
returns c =
    let args = c.args in
    simp (c.pick.ensures, c.pick-size.ensures, c.pick-room.ensures)
    (one_quotient args.floor args.b args.d)

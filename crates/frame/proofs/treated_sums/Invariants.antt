-- `frame::treated_sums` meets its contract. The loop's invariant: the sums up to i are filled in, treated, and the
-- others are as they were. Assumes nothing.
use mathlib.Core.Path.{◌≡◌}
use mathlib.Core.List.{map}
use lib.Ieee.{Float}
use Rattle.number.specs.Treat.{treated}
use Rattle.rules.specs.Rows.{Row}
use Rattle.rules.specs.Plain.{raw_sum}
use Rattle.general.proofs.Filled.{filled}
use Rattle.frame.proofs.treated_sums.Given as goal

-- one sum of the rule
abbrev pub sum_of : Float → Float → Float → Float → Row → Float
sum_of t r p y row = treated (raw_sum t r p y row)

abbrev pub invariant-loop-i : goal.invariant-loop-i
invariant-loop-i l = l.m ≡ filled l.initial.m (map (sum_of l.t l.r l.p l.y) l.rows) l.i

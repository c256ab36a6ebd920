-- `solve::with_column`: the rows below the index have their new element. Assumes nothing.
use mathlib.Core.Path.{◌≡◌}
use Rattle.solve.proofs.Column.{replaced_below}
use Rattle.solve.proofs.with_column.Given as goal

abbrev pub invariant-loop-i : goal.invariant-loop-i
invariant-loop-i l = l.ak ≡ replaced_below l.fn.a l.k l.fn.rhs l.i

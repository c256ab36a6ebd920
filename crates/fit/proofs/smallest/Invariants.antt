-- `fit::smallest` meets its contract. The loop's invariant: what is left to walk, from the scale held, gives the whole
-- walk, and that scale is a number of at most 1. Assumes nothing.
use mathlib.Core.Path.{◌≡◌}
use Rattle.std.specs.Iterator.Adapters.{zip_first, zip_second}
use Rattle.std.specs.Slice.Iter.{iter_rest}
use Rattle.binary32.specs.Arithmetic.{1f}
use Rattle.fit.specs.Fit.{walk}
use Rattle.fit.proofs.Bounded.{Held}
use Rattle.fit.proofs.smallest.Given as goal

abbrev pub invariant-loop-b : goal.invariant-loop-b
invariant-loop-b l =
    (walk l.floor l.s (iter_rest (zip_first l.b-iterator)) (iter_rest (zip_second l.b-iterator))
    ≡ walk l.floor 1f l.fn.base l.fn.delta)
    × Held l.s

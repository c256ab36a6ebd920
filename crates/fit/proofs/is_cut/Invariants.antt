-- `fit::is_cut` meets its contract. The loop's invariant: what was found, or else what is left to search, is the
-- answer. Assumes nothing.
use mathlib.Core.Path.{◌≡◌}
use mathlib.Core.Bool.{◌||◌}
use Rattle.std.specs.Iterator.Adapters.{zip_first, zip_second}
use Rattle.std.specs.Slice.Iter.{iter_rest}
use Rattle.fit.specs.Cut.{is_cut}
use Rattle.fit.proofs.is_cut.Given as goal

abbrev pub invariant-loop-b : goal.invariant-loop-b
invariant-loop-b l =
    l.cut || is_cut l.floor (iter_rest (zip_first l.b-iterator)) (iter_rest (zip_second l.b-iterator))
    ≡ is_cut l.floor l.fn.base l.fn.delta

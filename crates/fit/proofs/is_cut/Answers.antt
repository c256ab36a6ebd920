-- `fit::is_cut` meets its contract. The loop's invariant: what was found, or else what is left to search, is the
-- answer. Assumes nothing.
use mathlib.Core.Path.{refl, sym, ◌∙◌}
use Rattle.std.proofs.lemmas.Slice.Zip.{Zip-more, either_empty_from_Zip}
use Rattle.fit.proofs.Cut.{or_none, cut_next, cut_over}
use Rattle.fit.proofs.is_cut.Goals as goal

pub loop-b-preserved : goal.loop-b-preserved
loop-b-preserved c =
    let left = Zip-more c.loop-b.b-iterator c.next.new.self _ (c.in-Some.b, c.in-Some.d) refl c.in-Some.ensures.steps in
    rw c.limit_of.ensures (cut_next c.loop-b.cut c.args.floor left.0 left.1) ∙ c.loop-b.invariant

pub returns : goal.returns
returns c =
    let none = either_empty_from_Zip c.loop-b.b-iterator c.next.new.self _ refl c.in-None.ensures.steps in
    sym (or_none c.loop-b.cut (cut_over c.args.floor none)) ∙ c.loop-b.invariant

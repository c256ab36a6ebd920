-- `fit::smallest` meets its contract. The loop's invariant: what is left to walk, from the scale held, gives the whole
-- walk, and that scale is a number of at most 1. Assumes nothing.
use mathlib.Core.Path.{refl, sym, ap, ◌∙◌}
use Rattle.std.proofs.lemmas.Slice.Zip.{Zip-more, either_empty_from_Zip}
use Rattle.fit.specs.Fit.{settled, fit_scale}
use Rattle.fit.proofs.Walk.{walk_next, walk_over}
use Rattle.fit.proofs.Bounded.{not_above, step_held, held_settles}
use Rattle.fit.proofs.smallest.Goals as goal

pub tighten-s-requires : goal.tighten-s-requires
tighten-s-requires c = not_above c.loop-b.invariant.1

pub loop-b-preserved : goal.loop-b-preserved
loop-b-preserved c =
    let floor = c.args.floor in
    let s = c.loop-b.s in
    let inv = c.loop-b.invariant in
    let left =
    Zip-more c.loop-b.b-iterator c.next.new.self _ (c.in-Some.b, c.in-Some.d) refl c.in-Some.ensures.steps in (
      rw c.tighten-s.ensures (walk_next floor s left.0 left.1) ∙ inv.0,
      rw c.tighten-s.ensures (step_held floor s _ _ inv.1),
    )

pub returns : goal.returns
unfolding fit_scale
returns c =
    let s = c.loop-b.s in
    let inv = c.loop-b.invariant in
    let none = either_empty_from_Zip c.loop-b.b-iterator c.next.new.self _ refl c.in-None.ensures.steps in
    c.pick.ensures ∙ held_settles s inv.1 ∙ ap settled (sym (walk_over c.args.floor s none) ∙ inv.0)

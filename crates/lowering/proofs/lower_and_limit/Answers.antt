-- `lowering::lower_and_limit` meets its contract: a turn of the loop lowers the motor that is lent, and at its end all
-- are the rule's. Assumes nothing.
use mathlib.Core.Path.{◌≡◌, refl, sym, ap, ◌∙◌, subst}
use mathlib.Core.List.{List, map, map-map}
use native.Mathlib.Omega.{arith}
use lib.ListN.{get_or, length-map}
use lib.Dec.{T}
use lib.Ieee.{Float, nan, binary32, fits}
use Rattle.binary32.specs.Arithmetic.{0f}
use Rattle.number.specs.Treat.{floor_clamp}
use Rattle.rules.specs.Extremes.{largest}
use Rattle.rules.specs.Plain.{lowered_by, lowered, lower_limited}
use Rattle.general.proofs.Filled.{filled_at, fill_in_place, filled_in_place}
use Rattle.lowering.proofs.Taken.{excess_taken_lem}
use Rattle.lowering.proofs.lower_and_limit.Invariants.{lower_one}
use Rattle.lowering.proofs.lower_and_limit.Goals as goal

rule-is : (xs : List Float) → map (lower_one xs) xs ≡ lower_limited xs
unfolding lower_limited lowered
rule-is xs = sym (map-map (λ x. floor_clamp x 0f) (lowered_by (largest xs)) xs)

pub loop-m-init : goal.loop-m-init
loop-m-init c = refl

pub loop-m-preserved : goal.loop-m-preserved
loop-m-preserved c =
    let m₀ = c.args.m.now in
    let m = c.loop-m.m in
    let i = c.loop-m.m-index in
    let read : get_or m i nan ≡ get_or m₀ i nan =
    ap (λ (l : List Float). get_or l i nan) c.loop-m.invariant
    ∙ filled_at m₀ (map (lower_one m₀) m₀) i nan c.loop-m-test.true (omega (arith, length-map m₀ (lower_one m₀))) in
    let held : T (fits binary32 (get_or m i nan)) =
    subst (λ (x : Float). T (fits binary32 x)) (sym read) (c.slice_known-1.given i) in
    fill_in_place (lower_one m₀) m₀ m i nan c.loop-m-test.true c.loop-m.invariant
    (c.clamp_floor.ensures
    ∙ rw (c.excess-over.ensures, c.largest.ensures, excess_taken_lem (largest m₀) (get_or m i nan) held))

pub returns : goal.returns
returns c =
    let m₀ = c.args.m.now in
    c.loop-m.invariant ∙ filled_in_place (lower_one m₀) m₀ c.loop-m.m-index (omega arith) ∙ rule-is m₀

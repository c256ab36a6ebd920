-- `bodies::body` meets its contract: the part at the place, which lies within the sheet. Assumes nothing.
use mathlib.Core.Path.{◌≡◌, refl, ap, ◌∙◌}
use Prim.Native.Nat.{ℕ, ◌+◌, ◌-◌, ◌≤◌}
use native.Mathlib.Omega.{arith}
use lib.ListN.{length, take, drop}
use Rattle.bodies.proofs.Bodies.{place_within, place_bytes}
use Rattle.bodies.proofs.body.Goals as goal

pub overflow_add-end : goal.overflow_add-end
overflow_add-end c =
    let part = c.place-part.result in
    let within : part.at + part.size ≤ length c.args.sheet.now = rw c.place-part.ensures (place_within _ _) in
    omega arith

pub slice_bounds-result-end : goal.slice_bounds-result-end
slice_bounds-result-end c = rw c.place-part.ensures (place_within _ _)

pub returns : goal.returns
returns c =
    let s = c.args.sheet.now in
    let part = c.place-part.result in
    let taken : part.at + part.size - part.at ≡ part.size = omega arith in
    record {
      bytes = ap (λ (n : ℕ). take n (drop part.at s)) taken ∙ rw c.place-part.ensures (place_bytes _ _);
      block = refl;
      place = rw c.place-part.ensures;
    }

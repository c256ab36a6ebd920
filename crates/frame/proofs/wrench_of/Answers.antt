-- `frame::wrench_of` meets its contract. The loop's invariant: what is left to add to each of the four sums, from what
-- is held, gives the whole sum. Assumes nothing.
use mathlib.Core.Path.{◌≡◌, sym, ap, ◌∙◌}
use mathlib.Core.List.{List, map}
use Prim.Native.Nat.{ℕ, ◌+◌, ◌<◌, min}
use native.Mathlib.Omega.{arith}
use lib.ListN.{length, get_or, length-map, length-append}
use lib.Ieee.{Float, nan}
use borrow.Author.Rules.{rules}
use Rattle.std.proofs.lemmas.Slice.Zip.{zip_turn, zip_end}
use Rattle.binary32.specs.Arithmetic.{◌+f◌, ◌*f◌, 0f}
use Rattle.number.specs.Treat.{treated}
use Rattle.rules.specs.Rows.{Row, no_row, thrust_of, roll_of, pitch_of, yaw_of}
use Rattle.rules.specs.Torque.{summed, torque_of, achieved}
use Rattle.general.proofs.Lists.{map_at}
use Rattle.rules.proofs.Sums.{summed_next, summed_over}
use Rattle.frame.proofs.wrench_of.Invariants.{Left}
use Rattle.frame.proofs.wrench_of.Goals as goal

module _ (column : Row → Float) (s : Float) (rows : List Row) (motors : List Float) (i : ℕ)
    (left : Left column s rows motors i) where
  -- a turn adds the product of the row and the treated motor that stand there
  turn : (row : Row) (m : Float) → i < length rows → i < length motors → row ≡ get_or rows i no_row
      → m ≡ treated (get_or motors i nan)
      → Left column (s +f column row *f m) rows motors (i + 1)
  turn row m h k is_row is_motor =
      rw (is_row, is_motor, sym (map_at treated nan nan motors i k))
      (summed_next column s rows (map treated motors) i h (rw (length-map motors treated) k) ∙ left)

  -- after the last row or the last motor nothing is left
  whole : i ≡ min (length rows) (length motors) → s ≡ summed column 0f rows (map treated motors)
  whole h =
      sym (summed_over column s rows (map treated motors) i (omega (arith, length-map motors treated))) ∙ left

pub loop-row-preserved : goal.loop-row-preserved
loop-row-preserved c =
    let held = c.loop-row in
    let rows = c.args.rows.now in
    let motors = c.args.motors.now in
    let at =
    zip_turn rows motors held.yielded c.into_iter-row-iterator.result held.row-iterator c.next.new.self c.next.result
    (search rules) (search rules) held.yielded_by _ c.in-Some.is c.next.ensures.steps in
    let motor = c.sanitise-m.ensures ∙ ap treated (at.3 nan) in
    let step = λ (column : Row → Float) (s : Float) (left : Left column s rows motors (length held.yielded)).
    turn column s rows motors (length held.yielded) left _ _ at.0 at.1 (at.2 no_row) motor in
    rw length-append (
      step thrust_of held.thrust held.invariant.0,
      step roll_of held.roll held.invariant.1,
      step pitch_of held.pitch held.invariant.2,
      step yaw_of held.yaw held.invariant.3,
    )

pub returns : goal.returns
unfolding torque_of achieved
returns c =
    let held = c.loop-row in
    let rows = c.args.rows.now in
    let motors = c.args.motors.now in
    let end =
    zip_end rows motors held.yielded c.into_iter-row-iterator.result held.row-iterator c.next.new.self c.next.result
    (search rules) (search rules) held.yielded_by c.in-None.is c.next.ensures.steps in
    rw (
      whole thrust_of held.thrust rows motors _ held.invariant.0 end,
      whole roll_of held.roll rows motors _ held.invariant.1 end,
      whole pitch_of held.pitch rows motors _ held.invariant.2 end,
      whole yaw_of held.yaw rows motors _ held.invariant.3 end,
    )

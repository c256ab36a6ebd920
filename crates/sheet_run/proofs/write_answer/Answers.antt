-- `sheet_run::write_answer` meets its contract: four motors and the scale, written one after another, are the answer's
-- bytes. Assumes nothing.
use mathlib.Core.Path.{◌≡◌}
use lib.ListN.{length}
use borrow.Author.Rules.{rules}
use Rattle.sheet_run.proofs.AnswerBytes.{five_written}
use Rattle.sheet_run.proofs.write_answer.Goals as goal

pub returns : goal.returns
returns c =
    let count : length c.args.q.last_motors ≡ 4 = search rules in
    let is = c.last_motors-m.ensures in
    five_written c.args.out.now c.args.q.last_motors c.args.q.last_torque_scale
    count c.requires
    (rw is at c.write_float.ensures)
    (rw is at c.write_float-2.ensures)
    (rw is at c.write_float-3.ensures)
    (rw is at c.write_float-4.ensures)
    (rw c.last_torque_scale.ensures at c.write_float-5.ensures)

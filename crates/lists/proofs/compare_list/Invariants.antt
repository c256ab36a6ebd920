-- `lists::compare_list` ends, and its counts do not overflow. The loop's invariant: a record has a byte or more, so at
-- most as many records were passed as bytes, and at most as many differ as were passed; each has the least number of
-- bytes or more, after the four of the count. The measure is what is left of the list. Assumes nothing.
use Rattle.std.proofs.Common.{◌+◌, ◌-◌, ◌*◌, ◌≤◌, length}
use Rattle.lists.proofs.compare_list.Given as goal

abbrev pub invariant-loop-record : goal.invariant-loop-record
invariant-loop-record g l =
    (l.differ ≤ l.compared) × (l.compared + length l.rest ≤ length l.list)
    × (g.A.Answers.least * l.compared + length l.rest ≤ length l.list - 4)

abbrev pub decreases-loop-record : goal.decreases-loop-record
decreases-loop-record g l = length l.rest

-- `lines::entry_lines` meets its contract. The loop's invariant: what is left, written at the place reached, gives the
-- whole. Assumes nothing.
use Prim.Native.Nat.{◌-◌, ◌*◌, ◌≤◌}
use lib.ListN.{length}
use Rattle.lines.specs.declared.Page.{Page}
use Rattle.lines.specs.Lines.{lines_from, Put}
use Rattle.lines.proofs.entry_lines.Given as goal

abbrev pub invariant-loop-i : goal.invariant-loop-i
invariant-loop-i l =
    (l.page.at ≤ 53 * l.i) × (l.page.at ≤ length l.page.text.now)
    × ((end : Page)
    → Put (53 * (l.i-end - l.i)) (lines_from l.sheet l.answers l.i (l.i-end - l.i)) l.page end
    → Put (53 * l.i-end) (lines_from l.sheet l.answers 0 l.i-end) l.initial.page end)

-- `sheet::check_entries` meets its contract. The invariant: `end` is where the body of the entry has to begin, and what
-- is told of the entries from it on is what is told of all. Assumes nothing.
use mathlib.Core.Path.{◌≡◌}
use Prim.Native.Nat.{◌-◌}
use Rattle.entries.specs.Layout.{count_of, body_at}
use Rattle.sheet.specs.Table.{entries_told}
use Rattle.sheet.proofs.check_entries.Given as goal

abbrev pub invariant-loop-number : goal.invariant-loop-number
invariant-loop-number l = record {
  ends : l.end ≡ body_at l.sheet l.number;
  told : entries_told l.sheet l.number (l.k - l.number) ≡ entries_told l.sheet 0 (count_of l.sheet);
}

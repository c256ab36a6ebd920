-- `Page::put_line` meets its contract. The loop's invariant: the line is written as far as the words so far. Assumes
-- nothing.
use Prim.Native.Nat.{◌+◌, ◌*◌}
use Rattle.lines.specs.Lines.{Put}
use Rattle.lines.proofs.Parts.{line_begun}
use Rattle.lines.proofs.Page.put_line.Given as goal

abbrev pub invariant-loop-j : goal.invariant-loop-j
invariant-loop-j l = Put (7 + 9 * l.j) (line_begun l.sheet l.answers l.i l.j) l.fn.self l.self

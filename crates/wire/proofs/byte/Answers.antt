-- `wire::byte` meets its contract. Assumes nothing.
use mathlib.Core.Path.{sym}
use Rattle.wire.proofs.LittleEndian.{read_at_one, read_at_past}
use Rattle.wire.proofs.byte.Goals as goal

pub returns-then-at-s : goal.returns-then-at-s
returns-then-at-s c = sym (read_at_one _ _)

pub returns-else-at-s : goal.returns-else-at-s
returns-else-at-s c = sym (read_at_past 1 _ _ c.if-at-s.false)

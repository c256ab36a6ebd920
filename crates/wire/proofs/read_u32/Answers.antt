-- `wire::read_u32` meets its contract: four bytes are read as two bytes and the two after them. Assumes nothing.
use mathlib.Core.Path.{sym}
use Rattle.wire.proofs.LittleEndian.{read_at_add, read_at_past}
use Rattle.wire.proofs.read_u32.Goals as goal

pub returns-then-s-at : goal.returns-then-s-at
returns-then-s-at c = sym (read_at_past 4 _ _ c.if-s-at.true)

pub returns : goal.returns
returns c = rw (c.read_u16.ensures, c.read_u16-2.ensures) (sym (read_at_add 2 2 _ _))

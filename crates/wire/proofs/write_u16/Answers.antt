-- `wire::write_u16` meets its contract: the library gives the number's two bytes. Assumes nothing.
use Rattle.std.proofs.Common.{w16}
use Rattle.wire.proofs.Library.{to_le_bytes_is}
use Rattle.wire.proofs.write_u16.Goals as goal

pub returns : goal.returns
returns c = rw (c.write.ensures, c.to_le_bytes.ensures, to_le_bytes_is w16)

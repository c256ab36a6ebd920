-- `wire::write_u32` meets its contract: the library gives the number's four bytes. Assumes nothing.
use Rattle.std.proofs.Common.{w32}
use Rattle.wire.proofs.Library.{to_le_bytes_is}
use Rattle.wire.proofs.write_u32.Goals as goal

pub returns : goal.returns
returns c = rw (c.write.ensures, c.to_le_bytes.ensures, to_le_bytes_is w32)

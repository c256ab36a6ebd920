-- `wire::read_u16` meets its contract: the library puts the two bytes together. Assumes nothing.
use mathlib.Core.Path.{◌∙◌}
use native.Mathlib.Omega.{arith}
use Rattle.std.proofs.Common.{w16}
use Rattle.wire.proofs.Library.{from_le_bytes_at}
use Rattle.wire.proofs.read_u16.Goals as goal

pub returns : goal.returns
returns c =
    c.from_le_bytes.ensures
    ∙ from_le_bytes_at w16 c.bytes.result c.args.s.now c.args.at (omega arith) (omega arith) c.bytes.ensures

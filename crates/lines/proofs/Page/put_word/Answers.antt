-- `Page::put_word` meets its contract: the digits are written after the space, and are eight. Assumes nothing.
use mathlib.Core.Path.{refl}
use native.Mathlib.Omega.{arith}
use Rattle.lines.specs.Lines.{word_at}
use Rattle.lines.proofs.Parts.{put_hex, put_then}
use Rattle.lines.proofs.Page.put_word.Goals as goal

pub returns : goal.returns
unfolding word_at
returns c =
    put_then c.put.ensures (put_hex c.read_u32-bits.ensures (omega arith) c.write_hex.ensures refl refl)

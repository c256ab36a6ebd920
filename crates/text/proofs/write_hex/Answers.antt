-- `text::write_hex` meets its contract: the digits that io gives are the eight of the bits. Assumes nothing.
use mathlib.Core.Path.{ap, ◌∙◌}
use native.Mathlib.Omega.{arith}
use Rattle.wire.specs.Bytes.{write_at}
use Rattle.text.proofs.Spelling.{fewest_hex}
use Rattle.text.proofs.write_hex.Goals as goal

pub returns : goal.returns
returns c =
    let a = c.args in
    let made = c.hex-eight in
    let spelt = made.ensures.digits ∙ fewest_hex a.bits made.result (omega arith) made.ensures.len in
    c.write.ensures ∙ ap (write_at a.out.now a.at) spelt

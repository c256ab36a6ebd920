-- `text::write_decimal` meets its contract: the digits that io gives are the decimal digits, and 20 hold every u64.
-- Assumes nothing.
use mathlib.Core.Path.{sym, ap, ◌∙◌}
use native.Mathlib.Omega.{arith}
use lib.ListN.{length}
use Rattle.wire.specs.Bytes.{write_at}
use Rattle.text.proofs.Spelling.{digits_length, fewest_most, fewest_decimal}
use Rattle.text.proofs.write_decimal.Goals as goal

pub returns : goal.returns
returns c =
    let a = c.args in
    let made = c.decimal-count in
    let same = fewest_decimal a.n made.result made.ensures.len in
    let most =
    fewest_most 10 1 a.n 20 made.result (omega arith) (omega arith) (omega arith) made.ensures.len in
    let counted = sym (digits_length 10 made.result a.n) ∙ ap length same in
    (c.write.ensures ∙ ap (write_at a.out.now a.at) (made.ensures.digits ∙ same), counted, most)

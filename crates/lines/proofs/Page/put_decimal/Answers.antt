-- `Page::put_decimal` meets its contract: a byte has at most three digits. Assumes nothing.
use mathlib.Core.Path.{refl}
use native.Mathlib.Omega.{arith}
use Rattle.lines.proofs.Parts.{byte_few}
use Rattle.lines.proofs.Page.put_decimal.Goals as goal

pub returns : goal.returns
returns c =
    let few = byte_few {n = c.args.n} (omega arith) in
    let wrote = c.write_decimal.ensures in
    record { text = wrote.0; place = omega arith; few = few; inside = omega arith; same = refl }

-- `words::same` meets its contract: the library's equality of two arrays is that of their words. Assumes nothing.
use mathlib.Core.Path.{◌∙◌}
use native.Mathlib.Omega.{arith}
use Rattle.words.proofs.Agree.{agree_pointwise}
use Rattle.words.proofs.same.Goals as goal

pub returns : goal.returns
returns c =
    let args = c.args in
    let words = agree_pointwise args.a.now args.b.now (omega arith) in
    rw c.told-a at (c.eq.ensures ∙ words)

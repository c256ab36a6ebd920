-- The public contract determines the answer and every byte of the lent text. Assumes nothing.
use mathlib.Core.Path.{◌≡◌}
use mathlib.Core.List.{List}
use Prim.Native.Nat.{ℕ}
use Rattle.lines.specs.Lines.{Written}
use Rattle.lines.proofs.Determined.{written_determined}
use Rattle.report.specs.Report.{printed}

pub text_of_determined : (s before after other : List ℕ) (r q : ℕ) → Written (printed s) before after r
    → Written (printed s) before other q → (after ≡ other) × (r ≡ q)
text_of_determined s = written_determined (printed s)

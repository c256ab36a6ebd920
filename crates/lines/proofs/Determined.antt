-- Each public contract determines the answer and the lent text: two results that satisfy it are one. Both contracts are
-- `Written`, of one line or of several. Assumes nothing.
use mathlib.Core.Path.{◌≡◌}
use mathlib.Core.List.{List}
use Prim.Native.Nat.{ℕ}
use Rattle.general.proofs.Determined.{equal_determined}
use Rattle.lines.specs.Lines.{lines_of, refused_line, Written}

-- what the text is afterwards, and how many bytes were written
pub written_determined : (line before after other : List ℕ) (r q : ℕ) → Written line before after r
    → Written line before other q → (after ≡ other) × (r ≡ q)
written_determined line before after other r q h k =
    (equal_determined after other h.text k.text, equal_determined r q h.size k.size)

-- ---- the public functions

module _ (before after other : List ℕ) (r q : ℕ) where
  pub entry_lines_determined : (s answers : List ℕ) → Written (lines_of s answers) before after r
      → Written (lines_of s answers) before other q → (after ≡ other) × (r ≡ q)
  entry_lines_determined s answers = written_determined (lines_of s answers) before after other r q

  pub refused_line_determined : (number i : ℕ) → Written (refused_line number i) before after r
      → Written (refused_line number i) before other q → (after ≡ other) × (r ≡ q)
  refused_line_determined number i = written_determined (refused_line number i) before after other r q

-- The lines that `mixrun` prints, as lists of bytes in ASCII (document 01, 'The command sheet (ours)'). Definitions
-- only; the quotations are document 01's.
use Rattle.std.specs.Prelude.{◌≡◌, List, [], ◌∷◌, ◌++◌, ℕ, zero, suc, ◌+◌, ◌*◌, ◌≤◌, length}
use Rattle.wire.specs.Bytes.{read_at, write_at}
use Rattle.entries.specs.Layout.{count_of, kind_of, answer_size}
use Rattle.lines.specs.declared.Page.{Page}
use Rattle.text.specs.Digits.{hex_of, decimal_of}

-- ---- the lines of an accepted sheet

-- a space, and then the float at a place of the answers: "floats as eight lower-case hex digits of their bits"
unfoldable pub word_at : List ℕ → ℕ → List ℕ
word_at answers at = 32 ∷ hex_of (read_at 4 answers at)

-- "a line an entry, ended by LF: entry number, kind, four motors, scale", where the motors and the scale are the "20
-- bytes at its place in the output"
unfoldable pub line_of : List ℕ → List ℕ → ℕ → List ℕ
line_of s answers i =
    decimal_of i
    ++ (32 ∷ decimal_of (kind_of s i))
    ++ word_at answers (answer_size * i)
    ++ word_at answers (answer_size * i + 4)
    ++ word_at answers (answer_size * i + 8)
    ++ word_at answers (answer_size * i + 12)
    ++ word_at answers (answer_size * i + 16)
    ++ (10 ∷ [])

-- "It prints a line an entry": the lines of as many entries as are left, from entry i on
unfoldable pub lines_from : List ℕ → List ℕ → ℕ → ℕ → List ℕ
lines_from s answers i zero = []
lines_from s answers i (suc left) = line_of s answers i ++ lines_from s answers (suc i) left

-- and those of all "k entries"
unfoldable pub lines_of : List ℕ → List ℕ → List ℕ
lines_of s answers = lines_from s answers 0 (count_of s)

-- ---- the line of a refusal

-- "A refusal is one line, `refused 5 at 0`": the refusal's number, and that of the entry
unfoldable pub refused_line : ℕ → ℕ → List ℕ
refused_line number i =
    (114 ∷ 101 ∷ 102 ∷ 117 ∷ 115 ∷ 101 ∷ 100 ∷ 32 ∷ [])
    ++ decimal_of number
    ++ (32 ∷ 97 ∷ 116 ∷ 32 ∷ [])
    ++ decimal_of i
    ++ (10 ∷ [])

-- ---- what a function of this crate does to the lent text

-- room for 255 lines of 53 bytes
abbrev pub text_size : ℕ
text_size = 13515

-- One line or several, at the start of the lent text, whose other bytes stay; the answer is how many bytes were
-- written. They are no more than the text has, and so the part up to there can be printed.
pub record Written (line before after : List ℕ) (r : ℕ) : Type 0 where
  pub text : after ≡ write_at before 0 line
  pub size : r ≡ length line
  pub room : r ≤ text_size
  pub within : r ≤ length after

-- A part of what is printed, of at most `most` bytes, at the place of the page where it fits; the page goes on at the
-- place after it, and lends the same text.
pub record Put (most : ℕ) (part : List ℕ) (before after : Page) : Type 0 where
  pub text : after.text.now ≡ write_at before.text.now before.at part
  pub place : after.at ≡ before.at + length part
  pub few : length part ≤ most
  pub inside : after.at ≤ length before.text.now
  pub same : after.text.ghost_name ≡ before.text.ghost_name

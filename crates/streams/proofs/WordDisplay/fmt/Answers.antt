-- `streams::Word` displays as its eight digits: they fill the room, so that what is written is they and nothing else.
-- Assumes nothing.
use mathlib.Core.Path.{◌≡◌, refl, ◌∙◌}
use mathlib.Core.List.{List, [], ◌∷◌}
use Prim.Native.Nat.{ℕ}
use Rattle.wire.specs.Bytes.{write_at}
use Rattle.text.specs.Digits.{hex_of}
use Rattle.streams.proofs.WordDisplay.fmt.Goals as goal

filled : (word : ℕ) (room : List ℕ) → room ≡ 0 ∷ 0 ∷ 0 ∷ 0 ∷ 0 ∷ 0 ∷ 0 ∷ 0 ∷ []
    → write_at room 0 (hex_of word) ≡ hex_of word
unfolding write_at hex_of
filled word room is = rw is refl

pub returns-in-Ok-clause-writes : goal.returns-in-Ok-clause-writes
returns-in-Ok-clause-writes g c =
    let digits = c.in-Ok.ensures.cases.0 ∙ c.write_hex.ensures ∙ filled c.args.self.now.0 _ refl in
    λ plain ok. rw (← digits) (c.write_str.ensures.writes plain ok)

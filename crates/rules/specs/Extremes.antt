-- The largest and the least of some numbers, found by walking them in order: a number takes the place of the one held
-- only if it is strictly larger, or strictly smaller (document 01, 'The five quad mixes': "the largest", "largest minus
-- least", "lowest", "highest"; that of two equal ones the first stays, which tells -0 from +0, is the Rust's: 000,
-- 153-158, 344-352). Definitions only.
use Rattle.std.specs.Prelude.{cond, List, [], ◌∷◌, Float}
use Rattle.std.specs.Float.Ieee.{lt}
use Rattle.binary32.specs.Arithmetic.{0f}

unfoldable pub larger : Float → Float → Float
larger held x = cond (lt held x) x held

unfoldable pub smaller : Float → Float → Float
smaller held x = cond (lt x held) x held

unfoldable pub walked : (Float → Float → Float) → Float → List Float → Float
walked better held [] = held
walked better held (x ∷ xs) = walked better (better held x) xs

-- The walk starts at the first. (Of no numbers it is +0; no mix that asks for it has none.)
unfoldable pub best : (Float → Float → Float) → List Float → Float
best better [] = 0f
best better (x ∷ xs) = walked better x xs

abbrev pub largest : List Float → Float
largest = best larger

abbrev pub least : List Float → Float
least = best smaller

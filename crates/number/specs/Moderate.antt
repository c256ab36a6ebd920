-- What the code asks of a number before it leaves tests out: whether it is far from where sums overflow. The rules do
-- not know it. Definitions only.
use Rattle.std.specs.Prelude.{Bool, ◌&&◌, ltb, Float}
use Rattle.std.specs.Float.{binary32}
use Rattle.std.specs.Float.Ieee.{to_bits}
use Rattle.std.specs.Float.Ieee.Scale.{finite}
use Rattle.binary32.specs.Encoding.{exponent_field}

-- finite, and under 2 ^ 125 in size: the exponent's field of that number is 125 + 127
unfoldable pub moderate : Float → Bool
moderate x = finite x && ltb (exponent_field binary32 (to_bits binary32 x)) 252

-- The four operations of IEEE 754-2019 (5.4.1) at binary32, written as signs, the absolute value, and three constants:
-- each constant is the bit pattern that the code's literal compiles to. Definitions only.
use Rattle.std.specs.Prelude.{false, Float}
use Rattle.std.specs.Float.{nan, inf, fin, binary32}
use Rattle.std.specs.Float.Ieee.{add, sub, mul, div, of_bits}

infixl 60 ◌+f◌ ◌-f◌
infixl 70 ◌*f◌ ◌/f◌
abbrev pub ◌+f◌ : Float → Float → Float
x +f y = add binary32 x y

abbrev pub ◌-f◌ : Float → Float → Float
x -f y = sub binary32 x y

abbrev pub ◌*f◌ : Float → Float → Float
x *f y = mul binary32 x y

abbrev pub ◌/f◌ : Float → Float → Float
x /f y = div binary32 x y

-- x with its sign made positive and nothing else changed (IEEE 754-2019, 5.5.1, abs)
unfoldable pub absolute : Float → Float
absolute nan = nan
absolute (inf s) = inf false
absolute (fin s m e) = fin false m e

-- +0
abbrev pub 0f : Float
0f = of_bits binary32 0

-- 1
abbrev pub 1f : Float
1f = of_bits binary32 0x3f80_0000

-- 1.0e-6 as f32 (document 01, 'Treating the numbers': "Small")
abbrev pub small : Float
small = of_bits binary32 0x3586_37bd

-- Rounding to nearest, ties to even (roundTiesToEven in IEEE 754-2019, 4.3.1), over whole numbers: what is to be
-- delivered for an exact result, and no word on how to find it. The exact result is the fraction p / c, c over 0, in
-- units of the format's smallest value (2 ^ -149 at binary32). The numbers of the format are whole numbers of units, so
-- distances are compared as whole numbers, multiplied out by c. Definitions only.
use Rattle.std.specs.Prelude.{ℕ, suc, ◌+◌, ◌-◌, ◌*◌, ◌%◌, ◌^◌, ◌≤◌, ◌<◌, ◌≡◌, ℤ, pos, nat_abs, ◌-ℤ◌, ◌*ℤ◌, T, Float}
use Rattle.std.specs.Int.Signed.{lt_z}
use Rattle.std.specs.Float.{inf, Format}
use Rattle.std.specs.Float.Ieee.{prec, emax, low, fits, to_bits}
use Rattle.std.specs.Float.Ieee.Scale.{finite}
use Rattle.binary32.specs.Whole.{whole_of}

-- how far the number z lies from p / c, multiplied by c
unfoldable pub distance : Format → ℤ → ℕ → Float → ℕ
distance f p c z = nat_abs (p -ℤ whole_of f z *ℤ pos c)

-- the nearest number is delivered: z is a number of the format (the format holds it, and it is finite), and no number
-- of the format is nearer
pub record Nearest (f : Format) (p : ℤ) (c : ℕ) (z : Float) : Type 0 where
  pub held : T (fits f z)
  pub number : T (finite z)
  pub nearest : (y : Float) → T (fits f y) → T (finite y) → distance f p c z ≤ distance f p c y

-- of two that are equally near, the one whose last digit is even: where another number is as near as z, the bit pattern
-- of z is even. (What the standard adds for formats of one digit does not arise: these have 24 and 53.)
abbrev pub TiesToEven : Format → ℤ → ℕ → Float → Type 0
TiesToEven f p c z =
    (y : Float) → T (fits f y) → T (finite y) → distance f p c y ≡ distance f p c z → (whole_of f y ≡ whole_of f z → ⊥)
    → to_bits f z % 2 ≡ 0

-- the standard's bound, 2 ^ emax * (2 - 2 ^ -prec), in units: 2 ^ 127 * (2 - 2 ^ -24) at binary32, half a step over the
-- largest number
unfoldable pub bound : Format → ℕ
bound f = (2 ^ suc (prec f) - 1) * 2 ^ (low f + emax f - prec f)

-- z is delivered for p / c: a result of the bound's size or more rounds "to ∞ with no change in sign", and any other to
-- nearest
pub record RoundsTo (f : Format) (p : ℤ) (c : ℕ) (z : Float) : Type 0 where
  pub beyond : bound f * c ≤ nat_abs p → z ≡ inf (lt_z p (pos 0))
  pub within : nat_abs p < bound f * c → Nearest f p c z × TiesToEven f p c z

-- z is the number that the decimal n / 10 ^ k is read as: what is delivered for it (IEEE 754-2019, 5.12.2)
abbrev pub Decimal : Format → ℤ → ℕ → Float → Type 0
Decimal f n k z = RoundsTo f (n *ℤ pos (2 ^ low f)) (10 ^ k) z

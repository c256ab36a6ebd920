-- How far a number that is delivered may lie from the exact result, the fraction p / c in units (specs/Nearest.antt):
-- within half a unit in its last place. Distances are multiplied by c, as there. No definition rests on this one:
-- proofs/HalfUnit shows that every finite number that is delivered meets it. Definitions only.
use Rattle.std.specs.Prelude.{ℕ, ◌+◌, ◌-◌, ◌*◌, ◌^◌, ◌≤◌, ◌<◌, ℤ, nat_abs, Float}
use Rattle.std.specs.Float.{Format}
use Rattle.std.specs.Float.Ieee.{prec}
use Rattle.binary32.specs.Nearest.{distance}

-- the least normal number, 2 ^ emin (IEEE 754-2019, 3.3), in units: 2 ^ 23 at binary32, 2 ^ 52 at binary64
unfoldable pub least_normal : Format → ℕ
least_normal f = 2 ^ (prec f - 1)

-- The size is the exact result's. That of the number delivered would not do: 2 ^ -126 - 2 ^ -150 is delivered as
-- 2 ^ -126, which is normal, and lies half a unit away.
pub record WithinHalfUnit (f : Format) (p : ℤ) (c : ℕ) (z : Float) : Type 0 where
  -- sizes up to 2 ^ (prec + k) units have numbers that are at most 2 ^ k units apart: z lies within half of that
  pub last_place : (k : ℕ) → nat_abs p ≤ 2 ^ (prec f + k) * c → 2 * distance f p c z ≤ 2 ^ k * c
  -- so from the least normal number on, 2 ^ 24 (binary64: 2 ^ 53) times the distance is at most the exact size
  pub normal : least_normal f * c ≤ nat_abs p → 2 ^ prec f * distance f p c z ≤ nat_abs p
  -- and under it the distance is at most half of a unit
  pub subnormal : nat_abs p < least_normal f * c → 2 * distance f p c z ≤ c

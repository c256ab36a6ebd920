-- The torque that motors in 0..1 give by the quad's rows is finite, so none of its three sums is a NaN: a motor is at
-- most 1 in size, its row's factor is 1 or -1, and each of the four additions at most doubles the bound. Assumes
-- nothing.
use mathlib.Core.List.{List, [], ◌∷◌}
use Prim.Native.Nat.{ℕ, suc, ◌+◌, ◌<◌}
use native.Mathlib.Omega.{arith}
use lib.Dec.{T, lit<}
use lib.Pow.{pow-lt}
use lib.ListN.{length}
use lib.Ieee.{Float, Format, binary32, low, fits}
use Rattle.binary32.specs.Arithmetic.{0f, 1f}
use Rattle.binary32.specs.Range.{Between}
use Rattle.binary32.proofs.Magnitude.{Finite}
use Rattle.binary32.proofs.RoundedSize.{over_and_under}
use Rattle.binary32.proofs.Products.{Factor}
use Rattle.binary32.proofs.Range.{zero_finite, factor}
use Rattle.binary32.proofs.Sizes.{Within, wider, sum_within}
use Rattle.general.specs.Each.{Each}
use Rattle.rules.specs.Rows.{Row, roll_of, pitch_of, yaw_of, quad_rows}
use Rattle.rules.specs.Torque.{summed, torque_of}
use Rattle.rules.specs.Promises.{InUnit}
use Rattle.rules.proofs.Clamp.{zero_floor}
use Rattle.rules.proofs.Moderate.{Turns, one_turns, minus_one_turns}

-- ---- what lies in 0..1 is at most 1 in size, which is 2 ^ 149 units

-- in either format: at binary32 the power would be written out, which is too long a number for `omega`
factor_within : {f : Format} {s : Float} → Factor f s → Within f (low f) s
factor_within {f} {s} h =
    record { finite = h.number; size = omega (arith, h.from, h.to, over_and_under f s) }

unit_within : {m : Float} → T (fits binary32 m) → Between 0f 1f m → Within binary32 149 m
unit_within h b = factor_within (factor h b)

units_within : (motors : List Float) → Each (λ (m : Float). T (fits binary32 m)) motors → InUnit motors
    → Each (Within binary32 149) motors
units_within [] h b = tt
units_within (m ∷ motors) h b = (unit_within h.0 b.0, units_within motors h.1 b.1)

-- ---- a sum of such motors: each addition takes the bound to the next power of two, and the overflow bound is 2 ^ 277

all_wider : (k : ℕ) (motors : List Float) → Each (Within binary32 k) motors → Each (Within binary32 (suc k)) motors
all_wider k [] h = tt
all_wider k (m ∷ motors) h = (wider h.0, all_wider k motors h.1)

module _ (column : Row → Float) where
  summed_finite : (k : ℕ) {s : Float} → Within binary32 k s
      → (rows : List Row) → Each (λ (row : Row). Turns (column row)) rows
      → (motors : List Float) → Each (Within binary32 k) motors
      → k + length rows < 277 → Finite binary32 (summed column s rows motors)
  unfolding summed
  summed_finite k hs [] ts motors hm less = hs.finite
  summed_finite k hs (row ∷ rows) ts [] hm less = hs.finite
  summed_finite k hs (row ∷ rows) ts (m ∷ motors) hm less =
      summed_finite (suc k) (sum_within k hs (ts.0 k m hm.0) (pow-lt {j = 277} (omega arith)))
      rows ts.1 motors (all_wider k motors hm.1) (omega arith)

-- ---- the three sums, by the quad's four rows: from 2 ^ 149 they end at most at 2 ^ 153

module _ (motors : List Float) (h : Each (λ (m : Float). T (fits binary32 m)) motors) (b : InUnit motors) where
  column_finite : (column : Row → Float) → Each (λ (row : Row). Turns (column row)) quad_rows
      → Finite binary32 (summed column 0f quad_rows motors)
  unfolding quad_rows
  column_finite column ts =
      let zero = unit_within zero_finite.fits zero_floor.between in
      summed_finite column 149 zero quad_rows ts motors (units_within motors h b) (lit< tt)

pub unit_torque_finite : (motors : List Float) → Each (λ (m : Float). T (fits binary32 m)) motors → InUnit motors
    → Each (Finite binary32) (torque_of quad_rows motors)
unfolding torque_of quad_rows
unit_torque_finite motors h b =
    let one = one_turns in
    let minus = minus_one_turns in
    let roll = column_finite motors h b roll_of (minus, (minus, (one, (one, tt)))) in
    let pitch = column_finite motors h b pitch_of (one, (minus, (minus, (one, tt)))) in
    let yaw = column_finite motors h b yaw_of (minus, (one, (minus, (one, tt)))) in
    (roll, (pitch, (yaw, tt)))

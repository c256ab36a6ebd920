-- A number that is delivered lies within half a unit in the last place of the exact result: the two sizes next to
-- a / c, of prec digits, are a step of 2 ^ k apart, and the nearest size is no farther than the nearer of them. In
-- either format. Assumes nothing.
use mathlib.Core.Path.{◌≡◌, refl, ap}
use Prim.Native.Nat.{ℕ, suc, ◌+◌, ◌-◌, ◌*◌, ◌^◌, ◌≤◌, ◌<◌}
use native.Mathlib.Nat.{add-zero, one-mul, mul_assoc, mul_comm, mul_left_comm}
use native.Mathlib.Nat.{mul-le-mul_left, mul-le-mul_right, le_trans, le_of_eq}
use native.Mathlib.Decide.{dec_le}
use native.Mathlib.Omega.{arith}
use lib.Dec.{T}
use lib.Pow.{pow-add, pow_mono}
use lib.IntN.{ℤ, nat_abs}
use lib.Ieee.{Float, Format, binary32, binary64, prec, emax, low}
use lib.Ieee.Fits.{two}
use lib.Ieee.Scale.{finite}
use Rattle.binary32.specs.Nearest.{distance, RoundsTo}
use Rattle.binary32.specs.HalfUnit.{least_normal, WithinHalfUnit}
use Rattle.binary32.proofs.Magnitude.{pow_split}
use Rattle.binary32.proofs.NearestSize.{gap, NearestSize, Leading, leading, step, short_of}
use Rattle.binary32.proofs.Delivered.{delivered_size}

-- the least normal number is 2 ^ emin, and emin is 1 - emax: 2 ^ (emax - 1) times that is 1, which is 2 ^ low units
pub least_normal_lem : (f : Format) → least_normal f * 2 ^ (emax f - 1) ≡ 2 ^ low f
unfolding least_normal
least_normal_lem binary32 = refl
least_normal_lem binary64 = refl

-- 2 ^ prec is twice the least normal number
pub twice_normal : (f : Format) → 2 ^ prec f ≡ least_normal f * 2
unfolding least_normal
twice_normal f = pow_split (prec f) 1 (omega (arith, two f))

-- ---- sizes: n is the nearest size to a / c

module _ {f : Format} {a c n : ℕ} (C : 0 < c) (N : NearestSize f a c n) where
  -- the step between the two neighbours of a / c
  half_step : (l : Leading f a c) → 2 * gap a (n * c) ≤ 2 ^ l.shift * c
  half_step l =
      let w = l.lead in
      let k = l.shift in
      let lower = N.nearest (w * 2 ^ k) (short_of f k w (omega (arith, l.few))) in
      let upper = N.nearest (suc w * 2 ^ k) (short_of f k (suc w) (omega (arith, l.few))) in
      omega (arith, lower, upper, l.parts, l.less, step c w k)

  -- where digits are cut off, a / c has the size of 2 ^ (prec - 1) steps or more
  many_steps : (l : Leading f a c) → 0 < l.shift → least_normal f * (2 ^ l.shift * c) ≤ a
  unfolding least_normal
  many_steps l some =
      let reach = mul-le-mul_right (2 ^ l.shift * c) (l.full some) in
      omega (arith, reach, l.parts, mul_assoc l.lead (2 ^ l.shift) c)

  -- half of every step that numbers of the size of a / c have
  pub size_last_place : (k : ℕ) → a ≤ 2 ^ (prec f + k) * c → 2 * gap a (n * c) ≤ 2 ^ k * c
  size_last_place k most = go (leading f a c C)
    where
      go : Leading f a c → 2 * gap a (n * c) ≤ 2 ^ k * c
      go l = fewer (dec_le l.shift k)
        where
          fewer : Dec (l.shift ≤ k) → 2 * gap a (n * c) ≤ 2 ^ k * c
          fewer (yes h) = le_trans (half_step l) (mul-le-mul_right c (pow_mono h))
          -- the only other one is 2 ^ (prec + k) itself, which is a size
          fewer (no h) =
              let M = 2 ^ prec f * 2 ^ k in
              let whole : 2 ^ (prec f + k) * c ≡ M * c = ap (λ (m : ℕ). m * c) (pow-add 2 (prec f) k) in
              let longer : 2 ^ (1 + k) * c ≤ 2 ^ l.shift * c = mul-le-mul_right c (pow_mono (omega arith)) in
              let reached : least_normal f * (2 ^ (1 + k) * c) ≤ a =
              le_trans (mul-le-mul_left (least_normal f) longer) (many_steps l (omega arith)) in
              let same : M * c ≡ least_normal f * (2 ^ (1 + k) * c) = simp (twice_normal f, pow-add, mul_assoc) in
              omega (arith, N.nearest M (short_of f k (2 ^ prec f) (omega arith)))

  -- half of a unit times 2 ^ prec is the least normal number
  by_steps : (u : ℕ) → 2 * gap a (n * c) ≤ u → least_normal f * u ≤ a → 2 ^ prec f * gap a (n * c) ≤ a
  by_steps u h reach =
      rw (twice_normal f, mul_assoc (least_normal f) 2 (gap a (n * c)))
      (le_trans (mul-le-mul_left (least_normal f) h) reach)

  pub size_normal : least_normal f * c ≤ a → 2 ^ prec f * gap a (n * c) ≤ a
  size_normal least = go (leading f a c C)
    where
      go : Leading f a c → 2 ^ prec f * gap a (n * c) ≤ a
      go l = cut (dec_le l.shift 0)
        where
          cut : Dec (l.shift ≤ 0) → 2 ^ prec f * gap a (n * c) ≤ a
          cut (yes h) =
              by_steps c
              (le_trans (half_step l) (le_trans (mul-le-mul_right c (pow_mono h)) (le_of_eq (one-mul c)))) least
          cut (no h) = by_steps (2 ^ l.shift * c) (half_step l) (many_steps l (omega arith))

  -- up to the least normal number, and a little farther, one unit is the step
  pub size_subnormal : a < least_normal f * c → 2 * gap a (n * c) ≤ c
  size_subnormal less =
      let twice : 2 ^ (prec f + 0) * c ≡ 2 * (least_normal f * c) =
      simp (add-zero, twice_normal f, mul_comm, mul_left_comm) in
      le_trans (size_last_place 0 (omega arith)) (le_of_eq (one-mul c))

-- ---- numbers: a finite z is delivered for p / c units

pub half_unit : {f : Format} {z : Float} {p : ℤ} {c : ℕ} → T (finite z) → RoundsTo f p c z → 0 < c
    → WithinHalfUnit f p c z
half_unit {f} {z} {p} {c} t r C =
    let size = delivered_size t r C in
    record {
      last_place = λ k most. rw size.1 (size_last_place C size.0 k most);
      normal = λ least. rw size.1 (size_normal C size.0 least);
      subnormal = λ less. rw size.1 (size_subnormal C size.0 less);
    }

-- the two cases as one inequality
pub distance_most : {f : Format} {z : Float} {p : ℤ} {c : ℕ} → WithinHalfUnit f p c z
    → 2 ^ prec f * distance f p c z ≤ nat_abs p + least_normal f * c
distance_most {f} {z} {p} {c} w = go (dec_le (least_normal f * c) (nat_abs p))
  where
    go : Dec (least_normal f * c ≤ nat_abs p) → 2 ^ prec f * distance f p c z ≤ nat_abs p + least_normal f * c
    go (yes h) = omega (arith, w.normal h)
    go (no h) =
        let half = mul-le-mul_left (least_normal f) (w.subnormal (omega arith)) in
        rw (twice_normal f, mul_assoc (least_normal f) 2 (distance f p c z)) (omega arith)

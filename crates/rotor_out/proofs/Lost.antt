-- The lost rotor ends at +0 where its base and delta are 0 and the floor does not count for it; for the others the
-- floor counts as it is. Assumes nothing.
use mathlib.Core.Path.{◌≡◌, refl, ap, ◌∙◌, subst}
use mathlib.Core.List.{List, [], ◌∷◌, map}
use Prim.Native.Nat.{ℕ, zero, suc, ◌<◌}
use native.Mathlib.Omega.{arith}
use lib.ListN.{get_or}
use lib.Ieee.{Float, nan, binary32, add, neg, lt, of_bits}
use Rattle.binary32.specs.Arithmetic.{◌+f◌, ◌*f◌, 0f, 1f}
use Rattle.binary32.proofs.Magnitude.{Finite}
use Rattle.binary32.proofs.Products.{one_is_unit, one_times, mul_swapped}
use Rattle.binary32.proofs.Zero.{zero_product, by_zero}
use Rattle.number.specs.Treat.{treated, clamped, floor_clamp}
use Rattle.rules.specs.RotorOut.{placed, motor_without}

-- ---- one motor

-- a motor whose floor counts so much
abbrev counted : Float → Float → Float → Float → Float → Float
counted counts floor s b d = floor_clamp (treated (b +f s *f d)) (counts *f floor)

module _ {floor s : Float} (hf : Finite binary32 floor) (hs : Finite binary32 s) where
  lost : counted 0f floor s 0f 0f ≡ 0f
  unfolding floor_clamp treated clamped add lt neg of_bits
  lost =
      subst (λ (z : Float). floor_clamp (treated (0f +f z)) (0f *f floor) ≡ 0f) (mul_swapped binary32 0f s)
      (by_zero (λ (z : Float). floor_clamp (treated (0f +f z)) (0f *f floor) ≡ 0f)
      (by_zero (λ (w : Float). floor_clamp (treated (0f +f 0f)) w ≡ 0f) refl refl (zero_product hf))
      (by_zero (λ (w : Float). floor_clamp (treated (0f +f neg 0f)) w ≡ 0f) refl refl (zero_product hf))
      (zero_product hs))

  healthy : 1f *f floor ≡ floor
  healthy = ap (λ (one : Float). one *f floor) one_is_unit ∙ one_times binary32 floor hf.fits

-- ---- all four

-- the table: what the floor counts for each rotor, for each lost one
abbrev pub counts : List (List Float)
counts =
    (0f ∷ 1f ∷ 1f ∷ 1f ∷ [])
    ∷ (1f ∷ 0f ∷ 1f ∷ 1f ∷ [])
    ∷ (1f ∷ 1f ∷ 0f ∷ 1f ∷ [])
    ∷ (1f ∷ 1f ∷ 1f ∷ 0f ∷ [])
    ∷ []

abbrev pub counted_at : ℕ → Float → Float → List Float → List Float → ℕ → Float
counted_at failed floor s bs ds i =
    counted (get_or (get_or counts failed []) i nan) floor s (get_or bs i nan) (get_or ds i nan)

pub each_counted : (failed : ℕ) (floor s : Float) (bs ds : List Float) → failed < 4
    → Finite binary32 floor → Finite binary32 s → get_or bs failed nan ≡ 0f → get_or ds failed nan ≡ 0f
    → map (counted_at failed floor s bs ds) (0 ∷ 1 ∷ 2 ∷ 3 ∷ [])
    ≡ map (motor_without failed floor s bs ds) (0 ∷ 1 ∷ 2 ∷ 3 ∷ [])
unfolding motor_without
each_counted zero floor s bs ds l hf hs b d = rw (b, d, lost hf hs, healthy hf hs)
each_counted (suc zero) floor s bs ds l hf hs b d = rw (b, d, lost hf hs, healthy hf hs)
each_counted (suc (suc zero)) floor s bs ds l hf hs b d = rw (b, d, lost hf hs, healthy hf hs)
each_counted (suc (suc (suc zero))) floor s bs ds l hf hs b d = rw (b, d, lost hf hs, healthy hf hs)
each_counted (suc (suc (suc (suc n)))) floor s bs ds l hf hs b d = absurd (omega arith)

-- what is placed has +0 for the lost rotor
pub placed_lost : (failed : ℕ) (x : List Float) → failed < 4 → get_or (placed failed x) failed nan ≡ 0f
unfolding placed
placed_lost zero x l = refl
placed_lost (suc zero) x l = refl
placed_lost (suc (suc zero)) x l = refl
placed_lost (suc (suc (suc zero))) x l = refl
placed_lost (suc (suc (suc (suc n)))) x l = absurd (omega arith)

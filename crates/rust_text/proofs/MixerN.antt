-- The Rust's `MixerN` is document 01's, of eight rows: that it ends in a clamp that would pass a NaN and +infinity on
-- changes nothing, since no lowered sum is either. Assumes nothing.
use mathlib.Core.Path.{◌≡◌, refl, sym, ap, ◌∙◌}
use mathlib.Core.Bool.{Bool, true, false, cond}
use mathlib.Core.List.{List, [], ◌∷◌, map, map-map}
use Prim.Native.Nat.{ℕ, ◌≤◌, ◌<◌, min}
use native.Mathlib.Omega.{arith}
use borrow.Author.Tests.{ltb-true, ltb-false}
use lib.Dec.{ltb}
use lib.ListN.{length, set, replicate}
use lib.Ieee.{Float, binary32}
use lib.Ieee.Fits.{add-fits}
use Rattle.general.proofs.Lists.{map_same}
use Rattle.binary32.specs.Arithmetic.{◌+f◌, ◌*f◌, 0f}
use Rattle.binary32.proofs.Magnitude.{Finite}
use Rattle.general.specs.Each.{Each}
use Rattle.general.proofs.Lists.{each_mapped}
use Rattle.number.specs.Treat.{treated}
use Rattle.rules.specs.Rows.{Row, thrust_of, roll_of, pitch_of, yaw_of, quad_rows, quad_x_rows}
use Rattle.rules.specs.Command.{roll, pitch, yaw}
use Rattle.rules.specs.Plain.{raw_sum, raw_sums, lower_limited}
use Rattle.rules.specs.Frame.{max_rotors, frame_motors}
use Rattle.rules.specs.Torque.{summed, torque_of, achieved}
use Rattle.rules.proofs.Clamp.{treated_finite}
use Rattle.rust_text.specs.Forms.{◌!◌, for_each, for_up_to, zip, zip_into}
use Rattle.rust_text.specs.Numbers.{sanitise, clamp01}
use Rattle.rust_text.specs.Plain.{excess_taken}
use Rattle.rust_text.specs.State.{MIXER_X}
use Rattle.rust_text.specs.MixerN.{Mixer, new_n, quad_x, mix_n, achieved_wrench}
use Rattle.rust_text.proofs.Numbers.{sanitise_is}
use Rattle.rust_text.proofs.Loops.{overwritten}
use Rattle.rust_text.proofs.Plain.{excess_taken_lem}
use Rattle.rust_text.proofs.Lowered.{end_is}

-- ---- the mix

-- the sums, treated
abbrev treated_sum : List Float → Float → Row → Float
treated_sum torque thrust row = treated (raw_sum (treated thrust) (roll torque) (pitch torque) (yaw torque) row)

sums_finite : (torque : List Float) (thrust : Float) (rows : List Row)
    → Each (Finite binary32) (map (treated_sum torque thrust) rows)
unfolding raw_sum
sums_finite torque thrust =
    each_mapped (Finite binary32) (treated_sum torque thrust) (λ row. treated_finite _ (add-fits binary32 _ _))

-- the steps of the mix, from the four numbers treated
mix_steps : List Row → Float → Float → Float → Float → List Float
unfolding raw_sum
mix_steps rows t r p y =
    map (λ v. clamp01 v) (excess_taken (zip_into (λ mi row. sanitise (raw_sum t r p y row)) (replicate 8 0f) rows))

treated_steps : (self : Mixer) (torque : List Float) (thrust : Float)
    → mix_n self torque thrust ≡ mix_steps self.rows (treated thrust) (roll torque) (pitch torque) (yaw torque)
unfolding mix_n mix_steps raw_sum
treated_steps self torque thrust =
    ap (λ (t : Float). mix_steps self.rows t (sanitise (torque ! 0)) (sanitise (torque ! 1)) (sanitise (torque ! 2)))
    (sanitise_is thrust)
    ∙ ap (λ (r : Float). mix_steps self.rows (treated thrust) r (sanitise (torque ! 1)) (sanitise (torque ! 2)))
    (sanitise_is (torque ! 0))
    ∙ ap (λ (p : Float). mix_steps self.rows (treated thrust) (roll torque) p (sanitise (torque ! 2)))
    (sanitise_is (torque ! 1))
    ∙ ap (λ (y : Float). mix_steps self.rows (treated thrust) (roll torque) (pitch torque) y)
    (sanitise_is (torque ! 2))

pub mix_n_is : (self : Mixer) (torque : List Float) (thrust : Float) → length self.rows ≡ 8
    → mix_n self torque thrust ≡ frame_motors self.rows torque thrust
unfolding mix_steps frame_motors raw_sums raw_sum
mix_n_is self torque thrust e =
    treated_steps self torque thrust
    ∙ rw (
      overwritten (λ row. sanitise (raw_sum (treated thrust) (roll torque) (pitch torque) (yaw torque) row))
          (replicate 8 0f) self.rows (sym e),
      map_same (λ row. sanitise_is (raw_sum (treated thrust) (roll torque) (pitch torque) (yaw torque) row))
          self.rows,
      excess_taken_lem (map (treated_sum torque thrust) self.rows),
      end_is (map (treated_sum torque thrust) self.rows) (sums_finite torque thrust self.rows),
    )
    (ap lower_limited (sym (map-map treated _ self.rows)))

-- ---- what motors give

-- a motor's products added to the four sums
abbrev added : Row → Float → List Float → List Float
added row mi w = for_up_to 4 (λ k w. set w k (w ! k +f row ! k *f mi)) w

abbrev sum_up : Row × Float → List Float → List Float
sum_up pair w = added pair.0 (sanitise pair.1) w

wrench_walked : (a b c d : Float) (rows : List Row) (motors : List Float)
    → for_each (zip rows motors) sum_up (a ∷ b ∷ c ∷ d ∷ [])
    ≡ summed thrust_of a rows (map treated motors) ∷ summed roll_of b rows (map treated motors)
    ∷ summed pitch_of c rows (map treated motors) ∷ summed yaw_of d rows (map treated motors) ∷ []
unfolding summed
wrench_walked a b c d [] motors = refl
wrench_walked a b c d (row ∷ rows) [] = refl
wrench_walked a b c d (row ∷ rows) (m ∷ motors) =
    ap (λ (x : Float). for_each (zip rows motors) sum_up (added row x (a ∷ b ∷ c ∷ d ∷ []))) (sanitise_is m)
    ∙ wrench_walked (a +f row ! 0 *f treated m) (b +f row ! 1 *f treated m) (c +f row ! 2 *f treated m)
    (d +f row ! 3 *f treated m) rows motors

pub achieved_wrench_is : (self : Mixer) (motors : List Float)
    → achieved_wrench self motors ≡ achieved self.rows motors
unfolding achieved_wrench achieved torque_of
achieved_wrench_is self motors = wrench_walked 0f 0f 0f 0f self.rows motors

-- ---- how one is made

cut_to_eight : (n : ℕ) → cond (ltb 8 n) 8 n ≡ min n 8
cut_to_eight n = go (ltb 8 n) refl
  where
    go : (b : Bool) → ltb 8 n ≡ b → cond b 8 n ≡ min n 8
    go true e = let over : 8 < n = ltb-true 8 n e in omega arith
    go false e = let under : n ≤ 8 = ltb-false 8 n e in omega arith

pub new_is : (rows : List Row) (n : ℕ) → new_n rows n ≡ record { rows = rows; count = min n max_rotors }
unfolding new_n
new_is rows n = ap (λ (k : ℕ). record { rows = rows; count = k }) (cut_to_eight n)

pub quad_x_is : quad_x ≡ record { rows = quad_x_rows; count = 4 }
unfolding quad_x quad_x_rows quad_rows MIXER_X
quad_x_is = refl

-- Each motor lies between its floor and 1, and so in 0..1: every mix ends in the floor clamp, whatever it clamps. Of
-- the rotor-out mix this holds of the rotors that are not lost; the lost one is +0. Nothing is asked of the command but
-- that the floor is an f32. Assumes nothing.
use mathlib.Core.Path.{◌≡◌, refl, ◌∙◌}
use mathlib.Core.List.{List, [], ◌∷◌, map}
use Prim.Native.Nat.{ℕ, zero, suc, ◌≤◌, ◌<◌}
use native.Mathlib.Omega.{arith}
use borrow.Author.Tests.{eq-eqb, ne_eqb}
use lib.Dec.{T, eqb}
use lib.ListN.{get_or}
use lib.Ieee.{Float, nan, binary32, fits}
use lib.Ieee.Fits.{add-fits}
use Rattle.binary32.specs.Arithmetic.{◌+f◌, ◌*f◌, 0f, 1f}
use Rattle.binary32.specs.Range.{Between}
use Rattle.number.specs.Treat.{treated, limited, floor_clamp}
use Rattle.number.proofs.Choice.{by_test}
use Rattle.fit.specs.Fit.{fit_scale}
use Rattle.fit.proofs.Bounded.{scale_between}
use Rattle.rules.specs.Rows.{Row, quad_rows}
use Rattle.rules.specs.Command.{deltas}
use Rattle.rules.specs.Plain.{raw_sum}
use Rattle.rules.specs.ThrustFloor.{one_scale, scaled_motor, scaled_motors, thrust_floor_scale, thrust_floor_motors}
use Rattle.rules.specs.Priority.{priority_motor, priority_motors}
use Rattle.rules.specs.Airmode.{shifted, airmode_motors}
use Rattle.rules.specs.RotorOut.{tilt_motor, motor_without, motors_without}
use Rattle.rules.specs.Multi.{wrench_motors}
use Rattle.general.specs.Each.{Each}
use Rattle.rules.specs.Promises.{InUnit, RotorOutKeeps}
use Rattle.general.proofs.Lists.{each_mapped, each_at}
use Rattle.rules.proofs.Clamp.{Floor, Inside, zero_floor, limited_floor, inside_unit}
use Rattle.rules.proofs.Clamp.{treated_finite, clamp_inside, unit_clamp_between}

-- ---- motors that were clamped

-- motors that lie in lo..1, and in 0..1
pub record Clamped (lo : Float) (motors : List Float) : Type 0 where
  pub bounded : Each (Between lo 1f) motors
  pub unit : InUnit motors

-- whatever is clamped at a floor, so long as the format holds it
pub each_clamped : {A : Type 0} {lo : Float} (g : A → Float) → ((x : A) → T (fits binary32 (g x))) → Floor lo
    → (xs : List A) → Clamped lo (map (λ x. floor_clamp (g x) lo) xs)
each_clamped {lo} g fg h xs = record {
  bounded = each_mapped (Between lo 1f) (λ x. floor_clamp (g x) lo) (λ x. (clamp_inside (g x) (fg x) h).between) xs;
  unit = each_mapped (Between 0f 1f) (λ x. floor_clamp (g x) lo) (λ x. inside_unit h (clamp_inside (g x) (fg x) h)) xs;
}

-- ---- the mixes of any frame

-- each ends in the clamp of a sum, which an f32 always holds
pub thrust_floor_clamped : (rows : List Row) (torque : List Float) (thrust floor : Float) → T (fits binary32 floor)
    → Clamped (limited floor) (thrust_floor_motors rows torque thrust floor)
unfolding thrust_floor_motors scaled_motors scaled_motor
thrust_floor_clamped rows torque thrust floor ff =
    each_clamped _ (λ d. add-fits binary32 _ _) (limited_floor floor ff) (deltas rows torque)

-- the scale that thrust-floor records is a fit scale
pub thrust_floor_scaled : (rows : List Row) (torque : List Float) (thrust floor : Float)
    → Between 0f 1f (thrust_floor_scale rows torque thrust floor)
unfolding thrust_floor_scale one_scale
thrust_floor_scaled rows torque thrust floor = scale_between _ _ _

pub priority_clamped : (rows : List Row) (torque : List Float) (thrust floor : Float) → T (fits binary32 floor)
    → Clamped (limited floor) (priority_motors rows torque thrust floor)
unfolding priority_motors priority_motor
priority_clamped rows torque thrust floor ff =
    each_clamped _ (λ row. add-fits binary32 _ _) (limited_floor floor ff) rows

shifted_clamped : {idle : Float} → Floor idle → (xs : List Float) → Clamped idle (shifted idle xs)
unfolding shifted
shifted_clamped h xs = each_clamped _ (λ x. add-fits binary32 _ _) h xs

pub airmode_clamped : (rows : List Row) (torque : List Float) (thrust idle : Float) → T (fits binary32 idle)
    → Clamped (limited idle) (airmode_motors rows torque thrust idle)
unfolding airmode_motors
airmode_clamped rows torque thrust idle fi = shifted_clamped (limited_floor idle fi) _

-- 001 clamps each sum by itself
pub wrench_unit : (rows : List Row) (t r p y : Float) → InUnit (wrench_motors rows t r p y)
unfolding wrench_motors raw_sum
wrench_unit rows t r p y = each_mapped (Between 0f 1f) _ (λ row. unit_clamp_between _ (add-fits binary32 _ _)) rows

-- ---- the rotor-out mix where a rotor is lost: that one is +0, every other one is bounded, and all four lie in 0..1

-- the motors are made by their numbers
at_four : (g : ℕ → Float) (i : ℕ) → i < 4 → get_or (map g (0 ∷ 1 ∷ 2 ∷ 3 ∷ [])) i nan ≡ g i
at_four g zero h = refl
at_four g (suc zero) h = refl
at_four g (suc (suc zero)) h = refl
at_four g (suc (suc (suc zero))) h = refl
at_four g (suc (suc (suc (suc i)))) h = let no : ⊥ = omega arith in absurd no

pub without_keeps : (failed : ℕ) (floor : Float) (bs ds : List Float) → T (fits binary32 floor)
    → RotorOutKeeps failed floor (motors_without failed (limited floor) bs ds)
unfolding motors_without motor_without
without_keeps failed floor bs ds ff =
    let h = limited_floor floor ff in
    let s = fit_scale (limited floor) bs ds in
    let motor = motor_without failed (limited floor) s bs ds in
    let motor_inside : (i : ℕ)
    → Inside (limited floor) (floor_clamp (treated (get_or bs i nan +f s *f get_or ds i nan)) (limited floor)) =
    λ i. clamp_inside _ (treated_finite _ (add-fits binary32 _ _)).fits h in
    record {
      count = refl;
      lost = λ l. at_four motor failed l ∙ rw (eq-eqb failed failed refl);
      healthy = λ i l n. rw (at_four motor i l, ne_eqb i failed n) (motor_inside i).between;
      unit = each_mapped (Between 0f 1f) motor
          (λ i. by_test (Between 0f 1f) (eqb i failed) (λ e. zero_floor.between) (λ e. inside_unit h (motor_inside i)))
          (0 ∷ 1 ∷ 2 ∷ 3 ∷ []);
    }

-- ---- the rotor-out mix where none is lost: all four are bounded

tilt_clamped : (floor t r p : Float) → Floor floor → (rows : List Row)
    → Clamped floor (map (tilt_motor floor t r p) rows)
unfolding tilt_motor
tilt_clamped floor t r p h rows = each_clamped _ (λ row. (treated_finite _ (add-fits binary32 _ _)).fits) h rows

pub tilt_keeps : (failed : ℕ) (floor t r p : Float) → T (fits binary32 floor) → 4 ≤ failed
    → RotorOutKeeps failed floor (map (tilt_motor (limited floor) t r p) quad_rows)
unfolding quad_rows
tilt_keeps failed floor t r p ff l =
    let k = tilt_clamped (limited floor) t r p (limited_floor floor ff) quad_rows in
    record {
      count = refl;
      lost = λ g. let no : ⊥ = omega arith in absurd no;
      healthy =
          λ i g n. each_at (Between (limited floor) 1f) nan (map (tilt_motor (limited floor) t r p) quad_rows)
          k.bounded i g;
      unit = k.unit;
    }

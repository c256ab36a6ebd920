-- An empty list of motors keeps no promise, but for no rows: each record of `specs/Promises.antt` says how many motors
-- there are. Without that clause it would keep airmode's promise for any command, priority's for one that does not fit,
-- plain's for one that asks no motor for over 1, and that of a frame other than `quad_x`. Thrust-floor's `ordered` and
-- rotor-out's `healthy` would still rule it out, but not a list that is too long. Assumes nothing.
use mathlib.Core.Path.{◌≡◌, refl, sym, subst}
use mathlib.Core.Bool.{true}
use mathlib.Core.List.{List, [], ◌∷◌}
use Prim.Native.Nat.{ℕ}
use native.Mathlib.Omega.{arith}
use lib.Dec.{T}
use lib.ListN.{length, get_or}
use lib.Ieee.{Float, add, mul, lt, le, neg, of_bits}
use Rattle.binary32.specs.Arithmetic.{0f, 1f}
use Rattle.binary32.specs.Whole.{whole_of, over, under, negative, magnitude}
use Rattle.binary32.specs.Range.{exact_sum}
use Rattle.binary32.proofs.Magnitude.{finite_number}
use Rattle.binary32.proofs.Comparison.{le_refl}
use Rattle.general.specs.Each.{Each}
use Rattle.number.specs.Treat.{treated, clamped, limited}
use Rattle.fit.specs.Fit.{EachMotor}
use Rattle.rules.specs.Rows.{Row, roll_of, no_row, -1f, 1/2, quad_rows, quad_x_rows, octo_rows}
use Rattle.rules.specs.Command.{lifted, deltas}
use Rattle.rules.specs.Extremes.{larger, walked, best, largest}
use Rattle.rules.specs.Plain.{raw_sum, raw_sums}
use Rattle.rules.specs.Priority.{yaw_group, roll_pitch_group}
use Rattle.rules.specs.Promises.{Bounded, InUnit, SumRounded, Fits, Ordered, AllFitBothOrders}
use Rattle.rules.specs.Promises.{ThrustFloorKeeps, PriorityKeeps, AirmodeKeeps}
use Rattle.rules.specs.Promises.{RotorOutKeeps, FrameKeeps, PlainKeeps}
use Rattle.rules.proofs.Clamp.{delta_finite}

-- ---- no motors are those of no rows

no_rows : (rows : List Row) → length {A = Float} [] ≡ length rows → rows ≡ []
no_rows [] e = refl
no_rows (row ∷ rows) e = let no : ⊥ = omega arith in absurd no

module _ (rows : List Row) (torque : List Float) (thrust floor : Float) where
  pub thrust_floor_no_rows : (scale : Float) → ThrustFloorKeeps rows torque thrust floor [] scale → rows ≡ []
  thrust_floor_no_rows scale keeps = no_rows rows keeps.count

  pub priority_no_rows : PriorityKeeps rows torque thrust floor [] → rows ≡ []
  priority_no_rows keeps = no_rows rows keeps.count

  pub airmode_no_rows : AirmodeKeeps rows torque thrust floor [] → rows ≡ []
  airmode_no_rows keeps = no_rows rows keeps.count

  pub frame_no_rows : FrameKeeps rows torque thrust [] → rows ≡ []
  frame_no_rows keeps = no_rows rows keeps.count

-- the quad has four
pub plain_has_motors : (torque : List Float) (thrust : Float) → PlainKeeps torque thrust [] → ⊥
unfolding quad_rows
plain_has_motors torque thrust keeps = let none = keeps.count in omega arith

pub rotor_out_has_motors : (failed : ℕ) (floor : Float) → RotorOutKeeps failed floor [] → ⊥
rotor_out_has_motors failed floor keeps = let none = keeps.count in omega arith

-- ---- what the other clauses say of no motors

-- roll 1, thrust 0.5, floor 0: M1 would get -0.5
abbrev hard : List Float
hard = 1f ∷ 0f ∷ 0f ∷ []

-- priority: it lies in every range, and as the command does not fit, `fitting` and `nearest` ask nothing
pub priority_but_for_count : Bounded 0f [] × InUnit [] × (AllFitBothOrders quad_rows hard 1/2 0f → ⊥)
unfolding quad_rows add mul neg lt of_bits exact_sum whole_of over under negative magnitude treated clamped limited
    lifted yaw_group roll_pitch_group
priority_but_for_count = (tt, tt, λ fit. fit.0.roll_pitch_last.from.le)

-- airmode: so does it, and `fitting` goes as far as the shorter of its two lists, so that it asks nothing of none
none_asked : (R : Float → Float → Type 0) (ds : List Float) → EachMotor R ds []
none_asked R [] = tt
none_asked R (d ∷ ds) = tt

pub airmode_but_for_count : (rows : List Row) (torque : List Float) (thrust idle : Float)
    → Bounded idle [] × InUnit []
    × (Fits idle (limited thrust) (deltas rows torque)
    → EachMotor (SumRounded (limited thrust)) (deltas rows torque) [])
airmode_but_for_count rows torque thrust idle = (tt, tt, λ fit. none_asked _ (deltas rows torque))

-- plain: where the largest is not over 1, `to_one` asks nothing, and nor does `overflowed` of none
pub plain_but_for_count : InUnit [] × Each (λ m. m ≡ 0f) []
    × (lt 1f (largest (raw_sums quad_rows (0f ∷ 0f ∷ 0f ∷ []) 1/2)) ≡ true → ⊥)
unfolding raw_sums raw_sum quad_rows treated larger walked best add mul neg lt of_bits
plain_but_for_count = (tt, tt, λ over. subst T (sym over) tt)

-- a frame: its `quad_x` asks nothing of other rows, such as these eight
pub frame_but_for_count : InUnit [] × (octo_rows ≡ quad_x_rows → ⊥)
unfolding octo_rows quad_x_rows quad_rows lt of_bits
frame_but_for_count = (tt, λ e. subst (λ (rows : List Row). T (lt -1f (roll_of (get_or rows 0 no_row)))) e tt)

-- thrust-floor: a delta is in order with itself, and no motor is
pub thrust_floor_ordered_counts : (row : Row) (rows : List Row) (torque : List Float)
    → Ordered (deltas (row ∷ rows) torque) [] → ⊥
unfolding deltas le
thrust_floor_ordered_counts row rows torque ordered =
    subst T (sym (ordered 0 0 (le_refl (finite_number (delta_finite _ _ _ row))))) tt

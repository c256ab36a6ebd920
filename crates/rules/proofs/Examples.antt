-- The promises that ask something of a command can be met. Those of `fitting`, in each of the three mixes that make
-- one: two commands to the quad fit. One has sums that are no f32, so that they have to be rounded; the other has sums
-- at both ends of the range. That of `quad_x`: a third command has no raw sum of +infinity, and yet two that treating
-- changes, and one over 1, so that all are lowered. And `fitting` by itself rules out document 01's "all motors at the
-- floor", in each of the three mixes. Assumes nothing.
use mathlib.Core.Path.{◌≡◌, refl, sym, ◌∙◌, subst}
use mathlib.Core.Bool.{Bool, true, false, not, ◌&&◌}
use mathlib.Core.List.{List, [], ◌∷◌}
use Prim.Native.Nat.{ℕ}
use native.Mathlib.Omega.{arith}
use lib.Dec.{T, T_not}
use lib.Pow.{pow_pos}
use lib.IntN.{ℤ}
use lib.Signed.{le_z, ≤ℤ_refl}
use lib.ListN.{get_or, replicate}
use lib.Ieee.{Float, nan, inf, binary32, fits, round, add, mul, lt, eq, neg, of_bits}
use lib.Ieee.Fits.{and_i, and_l, and_r}
use lib.Ieee.Scale.{finite}
use Rattle.binary32.specs.Arithmetic.{◌+f◌, 0f, 1f}
use Rattle.binary32.specs.Whole.{negative, magnitude, over, under, whole_of}
use Rattle.binary32.specs.Rounding.{rounding}
use Rattle.binary32.specs.Range.{exact_sum, SumWithin}
use Rattle.binary32.proofs.Magnitude.{Finite, finite_number}
use Rattle.binary32.proofs.Integers.{own_pair, rounding_rounded}
use Rattle.binary32.proofs.Operations.{add_rounded}
use Rattle.binary32.proofs.Exact.{eq_exact, rounding_own, delivered_rounding, add_delivered}
use Rattle.number.specs.Treat.{treated, clamped, limited}
use Rattle.rules.specs.Rows.{Row, quad_rows}
use Rattle.rules.specs.Command.{roll, pitch, yaw, lifted, collective, delta, deltas}
use Rattle.rules.specs.Extremes.{larger, walked, best, largest}
use Rattle.rules.specs.Plain.{raw_sum, raw_sums}
use Rattle.rules.specs.Priority.{yaw_group, roll_pitch_group}
use Rattle.general.specs.Each.{Each}
use Rattle.rules.specs.Promises.{Fits, FitsBothOrders, NotInfinity, ThrustFloorKeeps, PriorityKeeps, AirmodeKeeps}
use Rattle.general.proofs.Lists.{each_map}

-- ---- the commands, a table of bit patterns

record Command : Type 0 where
  roll_bits : ℕ
  yaw_bits : ℕ
  thrust_bits : ℕ
  floor_bits : ℕ

-- roll and yaw 2 ^ -26, thrust 1 - 2 ^ -24, floor 0.25
between_numbers : Command
between_numbers =
    record { roll_bits = 0x3280_0000; yaw_bits = 0x3280_0000; thrust_bits = 0x3f7f_ffff; floor_bits = 0x3e80_0000 }

-- roll 0.25, yaw 0.125, thrust 0.625, floor 0.25
at_the_ends : Command
at_the_ends =
    record { roll_bits = 0x3e80_0000; yaw_bits = 0x3e00_0000; thrust_bits = 0x3f20_0000; floor_bits = 0x3e80_0000 }

commands : List Command
commands = between_numbers ∷ at_the_ends ∷ []

module _ (c : Command) where
  abbrev torque : List Float
  torque = of_bits binary32 c.roll_bits ∷ 0f ∷ of_bits binary32 c.yaw_bits ∷ []

  abbrev thrust : Float
  thrust = of_bits binary32 c.thrust_bits

  abbrev floor : Float
  floor = of_bits binary32 c.floor_bits

  abbrev base : Float
  base = collective thrust floor

  -- what roll and pitch ask of a rotor, what yaw asks, and what all three ask
  abbrev roll_pitch_part : Row → Float
  roll_pitch_part = roll_pitch_group (roll torque) (pitch torque)

  abbrev yaw_part : Row → Float
  yaw_part = yaw_group (yaw torque)

  abbrev whole : Row → Float
  whole = delta (roll torque) (pitch torque) (yaw torque)

-- ---- the sums that are to lie in the range, at one rotor: thrust-floor's, airmode's, and priority's in both orders

record Sum : Type 0 where
  first : Float
  second : Float

sums_at : Command → Row → List Sum
sums_at c row =
    record { first = base c; second = whole c row }
    ∷ record { first = limited (thrust c); second = whole c row }
    ∷ record { first = base c +f roll_pitch_part c row; second = yaw_part c row }
    ∷ record { first = base c +f yaw_part c row; second = roll_pitch_part c row }
    ∷ []

abbrev InRange : Command → Sum → Type 0
InRange c s = SumWithin (limited (floor c)) 1f s.first s.second

-- ---- what is to be shown of each of a list, by a test that computes

module _ {A : Type 0} where
  all_true : (A → Bool) → List A → Bool
  all_true test [] = true
  all_true test (a ∷ l) = test a && all_true test l

  each_passes : (P : A → Type 0) (test : A → Bool) → ((a : A) → T (test a) → P a) → (l : List A)
      → T (all_true test l) → Each P l
  unfolding all_true
  each_passes P test sound [] t = tt
  each_passes P test sound (a ∷ l) t =
      (sound a (and_l (test a) (all_true test l) t), each_passes P test sound l (and_r (test a) (all_true test l) t))

range_test : Command → Sum → Bool
range_test c s =
    let exact = exact_sum s.first s.second in
    finite s.first
    && (finite s.second && (le_z (whole_of binary32 (limited (floor c))) exact && le_z exact (whole_of binary32 1f)))

in_range : (c : Command) (s : Sum) → T (range_test c s) → InRange c s
unfolding range_test
in_range c s t =
    let numbers = and_r (finite s.first) _ t in
    let ends = and_r (finite s.second) _ numbers in
    let above = le_z (whole_of binary32 (limited (floor c))) (exact_sum s.first s.second) in
    record {
      first = and_l (finite s.first) _ t;
      second = and_l (finite s.second) _ numbers;
      from = record { le = and_l above _ ends };
      to = record { le = and_r above _ ends };
    }

-- ---- both commands fit, in each of the three mixes

record FitsEach (c : Command) : Type 0 where
  thrust_floor : Fits (floor c) (base c) (deltas quad_rows (torque c))
  airmode : Fits (floor c) (limited (thrust c)) (deltas quad_rows (torque c))
  priority : Each (λ row. FitsBothOrders (floor c) (base c) (roll_pitch_part c row) (yaw_part c row)) quad_rows

rotors_test : Command → Bool
rotors_test c = all_true (λ row. all_true (range_test c) (sums_at c row)) quad_rows

rotors_fit : (c : Command) → T (rotors_test c) → FitsEach c
unfolding rotors_test sums_at deltas quad_rows
rotors_fit c t =
    let At : Row → Type 0 = λ row. Each (InRange c) (sums_at c row) in
    let each = each_passes At _ (λ row. each_passes (InRange c) (range_test c) (in_range c) (sums_at c row)) quad_rows
    t in
    record {
      thrust_floor = each_map At (SumWithin (limited (floor c)) 1f (base c)) (whole c) (λ row w. w.0) quad_rows each;
      airmode =
          each_map At (SumWithin (limited (floor c)) 1f (limited (thrust c))) (whole c)
          (λ row w. w.1.0) quad_rows each;
      priority =
          each_map At (λ row. FitsBothOrders (floor c) (base c) (roll_pitch_part c row) (yaw_part c row)) (λ row. row)
          (λ row w. record { yaw_last = w.1.1.0; roll_pitch_last = w.1.1.1.0 }) quad_rows each;
    }

they_fit : Each FitsEach commands
unfolding commands between_numbers at_the_ends all_true range_test rotors_test sums_at add mul neg lt of_bits
    exact_sum whole_of over under negative magnitude treated clamped limited lifted quad_rows delta yaw_group
    roll_pitch_group
they_fit = each_passes FitsEach rotors_test rotors_fit commands tt

-- ---- the second reaches both ends of the range

-- the first rotor and the last of the quad
M1 : Row
M1 = get_or quad_rows 0 []

M4 : Row
M4 = get_or quad_rows 3 []

-- each is exactly this number
abbrev Reach : Row → Float → Type 0
Reach row end = Each (λ s. exact_sum s.first s.second ≡ whole_of binary32 end) (sums_at at_the_ends row)

reach_the_ends : Reach M4 1f × Reach M1 (floor at_the_ends)
unfolding sums_at M1 M4 at_the_ends add mul neg lt of_bits exact_sum whole_of over under negative magnitude treated
    clamped limited lifted quad_rows delta yaw_group roll_pitch_group
reach_the_ends = ((refl, (refl, (refl, (refl, tt)))), (refl, (refl, (refl, (refl, tt)))))

-- ---- all motors at the floor do not keep what is promised of the second command: its M4 is to be at 1

floors : List Float
floors = replicate 4 (floor at_the_ends)

-- 0.25 is not the exact sum of M4, rounded
too_low : Each (λ s. T (not (eq (floor at_the_ends) (rounding binary32 (exact_sum s.first s.second) 1))))
    (sums_at at_the_ends M4)
unfolding sums_at M4 at_the_ends add mul neg lt eq of_bits round rounding exact_sum whole_of over under negative
    magnitude treated clamped limited lifted quad_rows delta yaw_group roll_pitch_group
too_low = (tt, (tt, (tt, (tt, tt))))

abbrev Kept : (List Row → List Float → Float → Float → List Float → Type 0) → Type 0
Kept Keeps = Keeps quad_rows (torque at_the_ends) (thrust at_the_ends) (floor at_the_ends) floors

thrust_floor_gives_more : (scale : Float)
    → Kept (λ rows torque thrust floor motors. ThrustFloorKeeps rows torque thrust floor motors scale) → ⊥
unfolding commands floors sums_at M4 deltas quad_rows
thrust_floor_gives_more scale keeps =
    subst (λ b. T (not b)) (keeps.fitting they_fit.1.0.thrust_floor).0.1.1.1.0.once too_low.0

airmode_gives_more : Kept AirmodeKeeps → ⊥
unfolding commands floors sums_at M4 deltas quad_rows
airmode_gives_more keeps =
    subst (λ b. T (not b)) (keeps.fitting they_fit.1.0.airmode).1.1.1.0.once too_low.1.0

priority_gives_more : Kept PriorityKeeps → ⊥
unfolding commands floors sums_at M4 quad_rows
priority_gives_more keeps =
    subst (λ b. T (not b)) (keeps.nearest they_fit.1.0.priority 3 (omega arith)).once too_low.1.1.0

-- ---- the first has sums that are no f32

NoNumber : Sum → Type 0
NoNumber s = (z : Float) → Finite binary32 z → whole_of binary32 z ≡ exact_sum s.first s.second → ⊥

-- where the rounded sum is not the exact one no f32 is: an f32 that is would be its own rounding
no_number : (s : Sum) → Finite binary32 s.first → Finite binary32 s.second
    → (whole_of binary32 (s.first +f s.second) ≡ exact_sum s.first s.second → ⊥) → NoNumber s
unfolding NoNumber exact_sum
no_number s hx hy differs z hz e =
    let n = (rounding_rounded binary32 1 (own_pair (exact_sum s.first s.second)) (pow_pos 0)).number in
    let sum = eq_exact (add_rounded hx hy).number n (delivered_rounding (pow_pos 0) (add_delivered hx hy)) in
    let own = eq_exact (finite_number hz) n (rw e at (rounding_own hz)) in
    differs (sum ∙ sym own ∙ e)

-- the same as a test
number_test : Float → Bool
number_test x = fits binary32 x && finite x

finite_passes : (x : Float) → T (number_test x) → Finite binary32 x
unfolding number_test
finite_passes x t =
    record { fits = and_l (fits binary32 x) (finite x) t; finite = and_r (fits binary32 x) (finite x) t }

differ_test : ℤ → ℤ → Bool
differ_test a b = not (le_z a b && le_z b a)

differ : (a b : ℤ) → T (differ_test a b) → a ≡ b → ⊥
unfolding differ_test
differ a b t e =
    let same : T (le_z a b && le_z b a) =
    subst (λ (c : ℤ). T (le_z a c && le_z c a)) e (and_i (le_z a a) (le_z a a) (≤ℤ_refl a).le (≤ℤ_refl a).le) in
    T_not (le_z a b && le_z b a) t same

rounded_test : Sum → Bool
rounded_test s =
    number_test s.first && (number_test s.second
    && differ_test (whole_of binary32 (s.first +f s.second)) (exact_sum s.first s.second))

no_number_passes : (s : Sum) → T (rounded_test s) → NoNumber s
unfolding rounded_test
no_number_passes s t =
    let rest = and_r (number_test s.first) _ t in
    no_number s (finite_passes s.first (and_l (number_test s.first) _ t))
    (finite_passes s.second (and_l (number_test s.second) _ rest))
    (differ _ _ (and_r (number_test s.second) _ rest))

are_rounded : Each NoNumber (sums_at between_numbers M4)
unfolding all_true rounded_test number_test differ_test sums_at M4 between_numbers fits add mul neg lt of_bits
    exact_sum whole_of over under negative magnitude treated clamped limited lifted quad_rows delta yaw_group
    roll_pitch_group
are_rounded = each_passes NoNumber rounded_test no_number_passes (sums_at between_numbers M4) tt

-- ---- the third command meets what `quad_x` asks

-- roll 2 ^ 127, yaw 4, thrust -2 ^ 127; this mix has no floor
to_minus_infinity : Command
to_minus_infinity = record {
  roll_bits = 0x7f00_0000;
  yaw_bits = 0x4080_0000;
  thrust_bits = 0xff00_0000;
  floor_bits = 0;
}

abbrev sums : List Float
sums = raw_sums quad_rows (torque to_minus_infinity) (thrust to_minus_infinity)

-- what is under +infinity is not +infinity
not_infinity : (x : Float) → T (lt x (inf false)) → NotInfinity x
unfolding lt
not_infinity x t e = subst (λ (z : Float). T (lt z (inf false))) e t

no_infinity : Each NotInfinity sums
unfolding all_true to_minus_infinity raw_sums raw_sum quad_rows treated add mul neg lt of_bits
no_infinity = each_passes NotInfinity (λ x. lt x (inf false)) not_infinity sums tt

-- the first raw sum is -infinity, and the largest is over 1
treated_and_lowered : (get_or sums 0 nan ≡ inf true) × (lt 1f (largest sums) ≡ true)
unfolding to_minus_infinity raw_sums raw_sum quad_rows treated larger walked best add mul neg lt of_bits
treated_and_lowered = (refl, refl)

-- What the mixes promise of their motors (demand 3, whose text is in docs/STATEMENT.md, and document 01's claims on
-- plain and on any airframe), in words that each is said in once. Here `motors` and `scale` are what a function
-- answers, and a frame is any list of rows. Definitions only; the quotations are demand 3's and document 01's.
use Rattle.std.specs.Prelude.{◌≡◌, true, false, not, List, map, ℕ, ◌<◌, T, length, get_or, take, Float}
use Rattle.std.specs.Float.{nan, inf, binary32}
use Rattle.std.specs.Float.Ieee.{lt, le, eq, is_nan, of_bits}
use Rattle.binary32.specs.Arithmetic.{◌+f◌, 0f, 1f}
use Rattle.binary32.specs.Rounding.{rounding}
use Rattle.binary32.specs.Nearest.{Nearest, TiesToEven}
use Rattle.binary32.specs.Range.{Between, exact_sum, SumWithin}
use Rattle.general.specs.Each.{Each}
use Rattle.number.specs.Treat.{limited}
use Rattle.fit.specs.Fit.{EachMotor}
use Rattle.rules.specs.Rows.{Row, no_row, quad_rows, quad_x_rows}
use Rattle.rules.specs.Command.{roll, pitch, yaw, collective, deltas}
use Rattle.rules.specs.Extremes.{largest}
use Rattle.rules.specs.Plain.{raw_sums, plain_motors}
use Rattle.rules.specs.Priority.{yaw_group, roll_pitch_group}

-- ---- the words

-- bounded: "each motor [...] lies between the floor, first limited to 0..1 (non-finite: 0), and 1"
abbrev pub Bounded : Float → List Float → Type 0
Bounded floor motors = Each (Between (limited floor) 1f) motors

-- each lies in 0..1, so none is a NaN
abbrev pub InUnit : List Float → Type 0
InUnit motors = Each (Between 0f 1f) motors

-- x is not +infinity
abbrev pub NotInfinity : Float → Type 0
NotInfinity x = x ≡ inf false → ⊥

-- m is the exact sum of x and y "rounded once, zero's sign aside"
pub record SumRounded (x y m : Float) : Type 0 where
  pub once : eq m (rounding binary32 (exact_sum x y) 1) ≡ true
  -- the same in the standard's words, which leave no other number: no f32 is nearer to the exact sum, and where another
  -- is as near, m is the one whose bit pattern is even
  pub nearest : Nearest binary32 (exact_sum x y) 1 m
  pub even : TiesToEven binary32 (exact_sum x y) 1 m

-- the command fits: "the mix's collective plus each delta, taken exactly, lies in that range"
abbrev pub Fits : Float → Float → List Float → Type 0
Fits floor base ds = Each (SumWithin (limited floor) 1f base) ds

-- ordered: "a larger delta never gets a smaller motor". (Past the end of a list stands a NaN, which is in order with
-- nothing.)
abbrev pub Ordered : List Float → List Float → Type 0
Ordered ds motors =
    (i j : ℕ) → le (get_or ds i nan) (get_or ds j nan) ≡ true → le (get_or motors i nan) (get_or motors j nan) ≡ true

-- ---- the mixes. Each says first how many motors there are, so that no promise is kept by leaving motors out:
-- proofs/NoMotors

pub record ThrustFloorKeeps (rows : List Row) (torque : List Float) (thrust floor : Float)
    (motors : List Float) (scale : Float) : Type 0 where
  pub count : length motors ≡ length rows
  pub bounded : Bounded floor motors
  pub unit : InUnit motors
  pub scaled : Between 0f 1f scale
  pub fitting : Fits floor (collective thrust floor) (deltas rows torque)
      → EachMotor (SumRounded (collective thrust floor)) (deltas rows torque) motors × (scale ≡ 1f)
  pub ordered : Ordered (deltas rows torque) motors

-- a rotor's two groups fit in both orders: "collective plus one torque group, rounded, then plus the other exactly,
-- lies there for both orders"
pub record FitsBothOrders (floor base : Float) (roll_pitch yaw : Float) : Type 0 where
  pub yaw_last : SumWithin (limited floor) 1f (base +f roll_pitch) yaw
  pub roll_pitch_last : SumWithin (limited floor) 1f (base +f yaw) roll_pitch

-- a rotor's two sums: the collective plus roll/pitch, rounded, and this plus yaw, rounded
abbrev pub roll_pitch_sum : List Float → Float → Float → Row → Float
roll_pitch_sum torque thrust floor row = collective thrust floor +f roll_pitch_group (roll torque) (pitch torque) row

abbrev pub priority_sum : List Float → Float → Float → Row → Float
priority_sum torque thrust floor row = roll_pitch_sum torque thrust floor row +f yaw_group (yaw torque) row

-- the command fits: "for both orders and every motor"
abbrev pub AllFitBothOrders : List Row → List Float → Float → Float → Type 0
AllFitBothOrders rows torque thrust floor =
    Each (λ row. FitsBothOrders floor (collective thrust floor)
    (roll_pitch_group (roll torque) (pitch torque) row) (yaw_group (yaw torque) row)) rows

pub record PriorityKeeps (rows : List Row) (torque : List Float) (thrust floor : Float) (motors : List Float)
    : Type 0 where
  pub count : length motors ≡ length rows
  pub bounded : Bounded floor motors
  pub unit : InUnit motors
  -- "each motor is collective plus roll/pitch plus yaw, rounded at each sum"
  pub fitting : AllFitBothOrders rows torque thrust floor → motors ≡ map (priority_sum torque thrust floor) rows
  -- so each motor is a nearest f32 to (collective plus roll/pitch, rounded) plus yaw, exactly
  pub nearest : AllFitBothOrders rows torque thrust floor
      → (i : ℕ) → i < length rows
      → SumRounded (roll_pitch_sum torque thrust floor (get_or rows i no_row))
      (yaw_group (yaw torque) (get_or rows i no_row))
      (get_or motors i nan)

pub record AirmodeKeeps (rows : List Row) (torque : List Float) (thrust idle : Float) (motors : List Float)
    : Type 0 where
  pub count : length motors ≡ length rows
  pub bounded : Bounded idle motors
  pub unit : InUnit motors
  pub fitting : Fits idle (limited thrust) (deltas rows torque)
      → EachMotor (SumRounded (limited thrust)) (deltas rows torque) motors

pub record RotorOutKeeps (failed : ℕ) (floor : Float) (motors : List Float) : Type 0 where
  pub count : length motors ≡ 4
  -- "a lost rotor 0 to 3 being +0"
  pub lost : failed < 4 → get_or motors failed nan ≡ 0f
  -- every other one of the four is bounded: all four where the rotor number is 4 or more
  pub healthy : (i : ℕ) → i < 4 → (i ≡ failed → ⊥) → Between (limited floor) 1f (get_or motors i nan)
  pub unit : InUnit motors

-- of any frame, `MixerN`'s: document 01's claims in 'Any airframe'
pub record FrameKeeps (rows : List Row) (torque : List Float) (thrust : Float) (motors : List Float) : Type 0 where
  pub count : length motors ≡ length rows
  -- "All results are in 0..1 for every matrix bit pattern."
  pub unit : InUnit motors
  -- "`quad_x` agrees in its first four, by bits, with plain whenever no raw sum of plain is +infinity."
  pub quad_x : rows ≡ quad_x_rows
      → Each NotInfinity (raw_sums quad_rows torque thrust)
      → take 4 motors ≡ plain_motors quad_rows torque thrust

-- x is one of xs
pub record OneOf (xs : List Float) (x : Float) : Type 0 where
  pub place : ℕ
  pub there : get_or xs place nan ≡ x

abbrev pub 2^24 : Float
2^24 = of_bits binary32 0x4b80_0000

-- plain, on the quad: document 01's claims in 'The five quad mixes', 1
pub record PlainKeeps (torque : List Float) (thrust : Float) (motors : List Float) : Type 0 where
  pub count : length motors ≡ length quad_rows
  pub unit : InUnit motors
  -- "Raw sums are never NaN here."
  pub no_nan : Each (λ x. T (not (is_nan x))) (raw_sums quad_rows torque thrust)
  -- "One raw +infinity makes all four 0."
  pub overflowed : (i : ℕ) → get_or (raw_sums quad_rows torque thrust) i nan ≡ inf false → Each (λ m. m ≡ 0f) motors
  -- "A finite largest over 1 and up to 2^24 ends exactly at 1." The largest is one of the four, so some motor does.
  pub attained : OneOf (raw_sums quad_rows torque thrust) (largest (raw_sums quad_rows torque thrust))
  pub to_one : lt 1f (largest (raw_sums quad_rows torque thrust)) ≡ true
      → le (largest (raw_sums quad_rows torque thrust)) 2^24 ≡ true
      → (i : ℕ)
      → get_or (raw_sums quad_rows torque thrust) i nan ≡ largest (raw_sums quad_rows torque thrust)
      → get_or motors i nan ≡ 1f

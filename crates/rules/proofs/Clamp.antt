-- What holding a number to a range gives: the limited number lies in 0..1, and the floor clamp in floor..1; it leaves
-- what lies there as it is, gives the floor for what is under it, and keeps the order of finite numbers; and the two
-- ends can be looked at in turn. A floor is any number in 0..1. Last, what the mixes make of a command first: a delta
-- is finite, and the collective is such a number. Assumes nothing.
use mathlib.Core.Path.{◌≡◌, refl, ◌∙◌}
use mathlib.Core.Bool.{Bool, true, false, cond}
use lib.Dec.{T}
use lib.Ieee.{Float, Format, binary32, fits, is_nan, lt, le, eq, of_bits}
use lib.Ieee.Bits.{is_true}
use lib.Ieee.Fits.{add-fits, cond-fits}
use lib.Ieee.Scale.{finite}
use Rattle.binary32.specs.Arithmetic.{0f, 1f}
use Rattle.binary32.specs.Range.{Between}
use Rattle.binary32.proofs.Magnitude.{Number, Finite, finite_number}
use Rattle.binary32.proofs.Comparison.{less_le, le_refl, le_trans, not_under, not_over}
use Rattle.binary32.proofs.Range.{zero_finite, one_finite, zero_number, one_number, between_finite}
use Rattle.number.specs.InTurn.{in_turn}
use Rattle.number.specs.Treat.{treated, clamped, limited, floor_clamp, unit_clamp}
use Rattle.number.proofs.Choice.{by_test}
use Rattle.rules.specs.Rows.{Row}
use Rattle.rules.specs.Command.{lifted, collective, delta}

-- ---- a number held to lo..hi, in either format

module _ {f : Format} {lo hi : Float} (nl : Number f lo) (nh : Number f hi) (h : le lo hi ≡ true) where
  -- it ends up there
  pub clamped_between : {x : Float} → Number f x → Between lo hi (clamped x lo hi)
  unfolding clamped
  clamped_between {x} nx =
      by_test (Between lo hi) (lt x lo)
      (λ e. record { from = le_refl nl; to = h })
      (λ e. by_test (Between lo hi) (lt hi x) (λ g. record { from = h; to = le_refl nh })
      (λ g. record { from = not_under nx nl e; to = not_under nh nx g }))

  -- what is there already stays as it is
  pub clamped_stays : {x : Float} → Number f x → Between lo hi x → clamped x lo hi ≡ x
  unfolding clamped
  clamped_stays nx b = rw (not_over nl nx b.from, not_over nx nh b.to)

  -- the two ends can be looked at one after the other, the lower in what the upper left
  pub clamped_in_turn : {x : Float} → Number f x
      → cond (lt (cond (lt hi x) hi x) lo) lo (cond (lt hi x) hi x) ≡ clamped x lo hi
  unfolding clamped
  clamped_in_turn {x} nx = go (lt hi x) refl
    where
      go : (b : Bool) → lt hi x ≡ b
          → cond (lt (cond b hi x) lo) lo (cond b hi x) ≡ cond (lt x lo) lo (cond b hi x)
      go true e = rw (not_over nl nh h, not_over nl nx (le_trans nl nh nx h (less_le hi x e)))
      go false e = refl

  -- which is what `in_turn` says
  pub in_turn_clamped : {x : Float} → Number f x → in_turn x lo hi ≡ clamped x lo hi
  unfolding in_turn
  in_turn_clamped nx = clamped_in_turn nx

  -- and the order is kept
  pub clamped_order : {x y : Float} → Number f x → Number f y → le x y ≡ true
      → le (clamped x lo hi) (clamped y lo hi) ≡ true
  unfolding clamped
  clamped_order {x} {y} nx ny o = go (lt x lo) (lt hi y) refl refl
    where
      go : (p q : Bool) → lt x lo ≡ p → lt hi y ≡ q → le (clamped x lo hi) (clamped y lo hi) ≡ true
      go true q e g = rw e (clamped_between ny).from
      go false true e g = rw (not_over nl ny (le_trans nl nh ny h (less_le hi y g)), g) (clamped_between nx).to
      go false false e g =
          let low = not_under nx nl e in
          let high = not_under nh ny g in
          rw (
            clamped_stays nx (record { from = low; to = le_trans nx ny nh o high }),
            clamped_stays ny (record { from = le_trans nl nx ny low o; to = high }),
          ) o

-- ---- a number in lo..1, and a floor

-- x is an f32 in lo..1
pub record Inside (lo x : Float) : Type 0 where
  pub finite : Finite binary32 x
  pub between : Between lo 1f x

-- a floor, as the mixes have it, is one in 0..1
abbrev pub Floor : Float → Type 0
Floor = Inside 0f

pub inside_number : {lo x : Float} → Inside lo x → Number binary32 x
inside_number h = finite_number h.finite

-- what fits and lies between two finite numbers is finite
pub inside : {lo x : Float} → Finite binary32 lo → T (fits binary32 x) → Between lo 1f x → Inside lo x
inside hl fx b =
    record { finite = record { fits = fx; finite = between_finite hl.finite one_finite.finite b }; between = b }

pub zero_floor : Floor 0f
unfolding le lt eq of_bits
zero_floor = record { finite = zero_finite; between = record { from = refl; to = refl } }

-- a floor lies in the range that it is the floor of, and that range in 0..1
pub floor_inside : {lo : Float} → Floor lo → Inside lo lo
floor_inside h =
    record { finite = h.finite; between = record { from = le_refl (inside_number h); to = h.between.to } }

pub inside_unit : {lo x : Float} → Floor lo → Inside lo x → Between 0f 1f x
inside_unit h i = record {
  from = le_trans zero_number (inside_number h) (inside_number i) h.between.from i.between.from;
  to = i.between.to;
}

-- held to that range, a finite number lies there
clamped_inside : {lo x : Float} → Floor lo → Finite binary32 x → Inside lo (clamped x lo 1f)
unfolding clamped
clamped_inside {lo} {x} h hx =
    inside h.finite
    (cond-fits binary32 (lt x lo) lo (cond (lt 1f x) 1f x) h.finite.fits
    (cond-fits binary32 (lt 1f x) 1f x one_finite.fits hx.fits))
    (clamped_between (inside_number h) one_number h.between.to (finite_number hx))

-- ---- treated and limited

-- a treated number is finite
pub treated_finite : (x : Float) → T (fits binary32 x) → Finite binary32 (treated x)
unfolding treated
treated_finite x h =
    by_test (Finite binary32) (finite x) (λ e. record { fits = h; finite = rw e tt }) (λ e. zero_finite)

-- and a finite number stays as it is
pub treated_stays : {x : Float} → Finite binary32 x → treated x ≡ x
unfolding treated
treated_stays {x} h = rw (is_true (finite x) h.finite)

-- a limited number lies in 0..1, so it is a floor
pub limited_floor : (x : Float) → T (fits binary32 x) → Floor (limited x)
unfolding limited
limited_floor x h = clamped_inside zero_floor (treated_finite x h)

-- ---- the floor clamp

-- it lies in floor..1, whatever was clamped
pub clamp_inside : (x : Float) {lo : Float} → T (fits binary32 x) → Floor lo → Inside lo (floor_clamp x lo)
unfolding floor_clamp
clamp_inside x {lo} fx h =
    by_test (Inside lo) (finite x) (λ e. clamped_inside h (record { fits = fx; finite = rw e tt }))
    (λ e. floor_inside h)

-- of a finite number it is the number held to floor..1
clamp_finite : {x : Float} → Finite binary32 x → (lo : Float) → floor_clamp x lo ≡ clamped x lo 1f
unfolding floor_clamp
clamp_finite {x} h lo = rw (is_true (finite x) h.finite)

-- the code can come to it by its ends in turn
pub clamp_in_turn : (x : Float) {lo : Float} → T (fits binary32 x) → Floor lo
    → cond (finite x) (cond (lt (cond (lt 1f x) 1f x) lo) lo (cond (lt 1f x) 1f x)) lo ≡ floor_clamp x lo
unfolding floor_clamp
clamp_in_turn x {lo} h l = go (finite x) refl
  where
    ends_in_turn : Float
    ends_in_turn = cond (lt (cond (lt 1f x) 1f x) lo) lo (cond (lt 1f x) 1f x)

    go : (b : Bool) → finite x ≡ b → cond b ends_in_turn lo ≡ cond b (clamped x lo 1f) lo
    go true e =
        clamped_in_turn (inside_number l) one_number l.between.to
        (finite_number (record { fits = h; finite = rw e tt }))
    go false e = refl

pub in_turn_floor_clamped : (x : Float) {lo : Float} → T (fits binary32 x) → Floor lo
    → cond (finite x) (in_turn x lo 1f) lo ≡ floor_clamp x lo
unfolding in_turn
in_turn_floor_clamped x h l = clamp_in_turn x h l

-- so a number that lies there stays as it is
pub clamp_stays : {x lo : Float} → Floor lo → Inside lo x → floor_clamp x lo ≡ x
clamp_stays {lo} h i =
    clamp_finite i.finite lo
    ∙ clamped_stays (inside_number h) one_number h.between.to (inside_number i) i.between

-- what is under the floor gives the floor
pub clamp_under : (x lo : Float) → lt x lo ≡ true → floor_clamp x lo ≡ lo
unfolding floor_clamp clamped
clamp_under x lo e = by_test (λ m. m ≡ lo) (finite x) (λ g. rw e) (λ g. refl)

-- and the order of finite numbers is kept (+infinity gives the floor, so that of all numbers is not)
pub clamp_order : {x y lo : Float} → Floor lo → Finite binary32 x → Finite binary32 y → le x y ≡ true
    → le (floor_clamp x lo) (floor_clamp y lo) ≡ true
clamp_order {lo} h hx hy o =
    rw (clamp_finite hx lo, clamp_finite hy lo)
    (clamped_order (inside_number h) one_number h.between.to (finite_number hx) (finite_number hy) o)

-- at +0 it is the limiting to 0..1 that document 01 has at the end of `MixerN`'s mix
pub clamp_at_zero : (x : Float) → floor_clamp x 0f ≡ limited x
unfolding floor_clamp limited treated clamped lt of_bits
clamp_at_zero x = by_test (λ b. b ≡ limited x) (finite x) (λ e. rw e) (λ e. rw e)

-- ---- 001's clamp

-- it lies in 0..1, whatever was clamped
pub unit_clamp_between : (x : Float) → T (fits binary32 x) → Between 0f 1f (unit_clamp x)
unfolding unit_clamp
unit_clamp_between x fx =
    by_test (Between 0f 1f) (is_nan x)
    (λ e. zero_floor.between)
    (λ e. clamped_between zero_number one_number zero_floor.between.to (record { fits = fx; number = rw e tt }))

-- ---- what the mixes make of a command first

-- a delta is finite, being treated
pub delta_finite : (r p y : Float) (row : Row) → Finite binary32 (delta r p y row)
unfolding delta
delta_finite r p y row = treated_finite _ (add-fits binary32 _ _)

-- the collective of thrust-floor and priority is one of two numbers in 0..1
pub collective_floor : (thrust floor : Float) → T (fits binary32 thrust) → T (fits binary32 floor)
    → Floor (collective thrust floor)
unfolding lifted
collective_floor thrust floor ft ff =
    by_test Floor (lt (limited thrust) (limited floor)) (λ e. limited_floor floor ff) (λ e. limited_floor thrust ft)

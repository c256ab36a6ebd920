-- Treating changes nothing of what moderate torques ask of each of the quad's rotors: it is finite. Assumes nothing.
use mathlib.Core.Path.{◌≡◌, refl, sym, subst}
use mathlib.Core.Bool.{◌&&◌}
use mathlib.Core.List.{List, map}
use Prim.Native.Nat.{ℕ}
use lib.Dec.{T}
use lib.Ieee.{Float, binary32, fits, neg, of_bits}
use lib.Ieee.Fits.{and_l, and_r}
use Rattle.binary32.specs.Arithmetic.{◌+f◌, ◌*f◌, 1f}
use Rattle.binary32.proofs.Products.{unit, one_is_unit}
use Rattle.binary32.proofs.Sizes.{Within, one_within, minus_one_within}
use Rattle.number.specs.Moderate.{moderate}
use Rattle.number.specs.Treat.{treated}
use Rattle.number.proofs.Moderate.{moderate_within, three_finite}
use Rattle.rules.specs.Rows.{Row, roll_of, pitch_of, yaw_of, -1f, quad_rows}
use Rattle.rules.specs.Command.{roll, pitch, yaw, delta, deltas}
use Rattle.rules.proofs.Clamp.{treated_stays}

-- ---- a factor of 1 or -1 leaves a number no larger than it was

abbrev pub Turns : Float → Type 0
Turns s = (k : ℕ) (x : Float) → Within binary32 k x → Within binary32 k (s *f x)

pub one_turns : Turns 1f
one_turns k x h = subst (λ (s : Float). Within binary32 k (s *f x)) (sym one_is_unit) (one_within h)

minus_one : -1f ≡ neg unit
unfolding of_bits neg
minus_one = refl

pub minus_one_turns : Turns -1f
minus_one_turns k x h = subst (λ (s : Float). Within binary32 k (s *f x)) (sym minus_one) (minus_one_within h)

-- ---- what they ask of each rotor

-- no larger than a moderate number can be
abbrev Small : Float → Type 0
Small = Within binary32 274

abbrev asked : Float → Float → Float → Row → Float
asked r p y row = roll_of row *f r +f pitch_of row *f p +f yaw_of row *f y

module _ {r p y : Float} (hr : Small r) (hp : Small p) (hy : Small y) where
  sum_stays : (a b c : Float) → Turns a → Turns b → Turns c
      → treated (a *f r +f b *f p +f c *f y) ≡ a *f r +f b *f p +f c *f y
  sum_stays a b c ta tb tc = treated_stays (three_finite (ta 274 r hr) (tb 274 p hp) (tc 274 y hy))

  each_stays : map (delta r p y) quad_rows ≡ map (asked r p y) quad_rows
  unfolding delta quad_rows
  each_stays =
      rw (
        sum_stays -1f 1f -1f minus_one_turns one_turns minus_one_turns,
        sum_stays -1f -1f 1f minus_one_turns minus_one_turns one_turns,
        sum_stays 1f -1f -1f one_turns minus_one_turns minus_one_turns,
        sum_stays 1f 1f 1f one_turns one_turns one_turns,
      )

-- ---- the deltas

pub moderate_deltas : (torque : List Float)
    → T (fits binary32 (roll torque)) → T (fits binary32 (pitch torque)) → T (fits binary32 (yaw torque))
    → T (moderate (roll torque) && moderate (pitch torque) && moderate (yaw torque))
    → map (asked (roll torque) (pitch torque) (yaw torque)) quad_rows ≡ deltas quad_rows torque
unfolding deltas
moderate_deltas torque fr fp fy h =
    let mr = moderate (roll torque) in
    let mp = moderate (pitch torque) in
    let my = moderate (yaw torque) in
    let first_two = and_l (mr && mp) my h in
    let r = moderate_within (roll torque) fr (and_l mr mp first_two) in
    let p = moderate_within (pitch torque) fp (and_r mr mp first_two) in
    let y = moderate_within (yaw torque) fy (and_r (mr && mp) my h) in
    sym (each_stays r p y)

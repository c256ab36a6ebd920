-- The fit scale is exactly 1 where each base plus its delta, taken exactly, lies in floor..1: no motor's limit is then
-- under 1, so that the walk never leaves the 1 that it started from. Nothing is asked of a base alone. Assumes nothing.
use mathlib.Core.Path.{◌≡◌, refl, ap, ◌∙◌}
use mathlib.Core.Bool.{Bool, true, false, ◌&&◌, ◌||◌, cond}
use mathlib.Core.List.{List, [], ◌∷◌}
use Prim.Native.Nat.{ℕ, suc}
use native.Mathlib.Omega.{arith}
use lib.Dec.{T}
use lib.ListN.{get_or}
use lib.Ieee.{Float, nan, binary32, fits, lt, neg, of_bits}
use lib.Ieee.Bits.{of_bits-fits}
use Rattle.binary32.specs.Arithmetic.{◌-f◌, ◌/f◌, 1f, small}
use Rattle.binary32.specs.Whole.{negative, under}
use Rattle.binary32.specs.Range.{SumWithin}
use Rattle.binary32.proofs.Magnitude.{Finite, finite_number}
use Rattle.binary32.proofs.Comparison.{lt_units}
use Rattle.binary32.proofs.Positive.{Positive, positive}
use Rattle.binary32.proofs.Operations.{neg_finite, over_neg, under_neg}
use Rattle.binary32.proofs.Products.{one_is_unit}
use Rattle.binary32.proofs.Range.{one_finite, sum_at_least, sum_at_most}
use Rattle.fit.specs.Fit.{limits, motor_limit, tightened, walk, settled, fit_scale, EachMotor}
use Rattle.fit.proofs.Room.{enough_room}

-- ---- a delta over small, or under -small, is not zero

small_finite : Finite binary32 small
unfolding of_bits
small_finite = record { fits = of_bits-fits binary32 0x3586_37bd; finite = tt }

small_plus : under binary32 small ≡ 0
unfolding under negative of_bits
small_plus = refl

over_small : {d : Float} → Finite binary32 d → lt small d ≡ true → Positive binary32 d
over_small {d} h e =
    let n = finite_number h in
    let less = lt_units (finite_number small_finite) n e in
    positive n (omega (arith, small_plus))

under_small : {d : Float} → Finite binary32 d → lt d (neg small) ≡ true → Positive binary32 (neg d)
under_small {d} h e =
    let n = finite_number h in
    let m = finite_number (neg_finite small_finite) in
    let less = lt_units n m e in
    positive (finite_number (neg_finite h))
    (omega (arith, small_plus, over_neg binary32 small, under_neg binary32 small, over_neg binary32 d))

-- ---- one motor, and all

motor_fitting : (floor b d : Float) → Finite binary32 floor → T (fits binary32 b) → T (fits binary32 d)
    → SumWithin floor 1f b d → tightened floor 1f b d ≡ 1f
unfolding limits motor_limit tightened
motor_fitting floor b d hf fb fd w = go (lt small d) (lt d (neg small)) refl refl
  where
    hb : Finite binary32 b
    hb = record { fits = fb; finite = w.first }

    hd : Finite binary32 d
    hd = record { fits = fd; finite = w.second }

    no_limit : (x : Float) → lt x 1f ≡ false → cond (lt x 1f) x 1f ≡ 1f
    no_limit x e = ap (λ (t : Bool). cond t x 1f) e

    go : (u v : Bool) → lt small d ≡ u → lt d (neg small) ≡ v
        → cond ((u || v) && lt (cond u ((1f -f b) /f d) ((b -f floor) /f neg d)) 1f)
        (cond u ((1f -f b) /f d) ((b -f floor) /f neg d)) 1f ≡ 1f
    go true v e g =
        let room = sum_at_most w in
        no_limit ((1f -f b) /f d)
        (ap (lt ((1f -f b) /f d)) one_is_unit ∙ enough_room one_finite hb hd (over_small hd e) (omega arith))
    go false true e g =
        let room = sum_at_least w in
        no_limit ((b -f floor) /f neg d)
        (ap (lt ((b -f floor) /f neg d)) one_is_unit ∙ enough_room hb hf (neg_finite hd) (under_small hd g)
        (omega (arith, over_neg binary32 d, under_neg binary32 d)))
    go false false e g = refl

-- each of them is an f32
abbrev Floats : List Float → Type 0
Floats xs = (k : ℕ) → T (fits binary32 (get_or xs k nan))

walk_fitting : (floor : Float) (bs ds : List Float) → Finite binary32 floor → Floats bs → Floats ds
    → EachMotor (SumWithin floor 1f) bs ds → walk floor 1f bs ds ≡ 1f
unfolding walk
walk_fitting floor [] ds hf fb fd w = refl
walk_fitting floor (b ∷ bs) [] hf fb fd w = refl
walk_fitting floor (b ∷ bs) (d ∷ ds) hf fb fd w =
    ap (λ (s : Float). walk floor s bs ds) (motor_fitting floor b d hf (fb 0) (fd 0) w.0)
    ∙ walk_fitting floor bs ds hf (λ k. fb (suc k)) (λ k. fd (suc k)) w.1

pub one_settles : settled 1f ≡ 1f
unfolding settled lt of_bits
one_settles = refl

pub scale_fitting : (floor : Float) (bs ds : List Float) → Finite binary32 floor → Floats bs → Floats ds
    → EachMotor (SumWithin floor 1f) bs ds → fit_scale floor bs ds ≡ 1f
unfolding fit_scale
scale_fitting floor bs ds hf fb fd w = ap settled (walk_fitting floor bs ds hf fb fd w) ∙ one_settles

-- The fit scale lies in 0..1, whatever the bases, the deltas and the floor are: the walk starts at 1 and only ever
-- takes something smaller, which is no NaN since it was found smaller, and its end turns what is under 0 or not finite
-- into +0. Assumes nothing.
use mathlib.Core.Path.{◌≡◌, refl, sym}
use mathlib.Core.Bool.{Bool, true, false, true≢false, not, ◌&&◌, ◌||◌, cond}
use mathlib.Core.List.{List, [], ◌∷◌}
use lib.Dec.{T}
use lib.Ieee.{Float, nan, inf, fin, binary32, fits, is_nan, lt, le, eq, neg, of_bits}
use lib.Ieee.Fits.{div-fits, cond-fits}
use lib.Ieee.Scale.{finite}
use Rattle.binary32.specs.Arithmetic.{◌-f◌, ◌/f◌, 0f, 1f, small}
use Rattle.binary32.specs.Range.{Between}
use Rattle.binary32.proofs.Magnitude.{Number}
use Rattle.binary32.proofs.Comparison.{less_le, le_number, le_refl, le_trans, not_under, not_over}
use Rattle.binary32.proofs.Range.{zero_finite, zero_number, one_number}
use Rattle.fit.specs.Fit.{limits, motor_limit, tightened, walk, settled, fit_scale}

-- ---- a scale that is held: a number, at most 1

pub record Held (s : Float) : Type 0 where
  pub number : Number binary32 s
  pub most : le s 1f ≡ true

pub one_held : Held 1f
one_held = record { number = one_number; most = le_refl one_number }

limit_fits : (floor b d : Float) → T (fits binary32 (motor_limit floor b d))
unfolding motor_limit
limit_fits floor b d =
    cond-fits binary32 (lt small d) ((1f -f b) /f d) ((b -f floor) /f neg d) (div-fits binary32 (1f -f b) d)
    (div-fits binary32 (b -f floor) (neg d))

-- ---- the walk keeps it

pub not_above : {s : Float} → Held s → lt 1f s ≡ false
not_above h = not_over h.number one_number h.most

pub step_held : (floor s b d : Float) → Held s → Held (tightened floor s b d)
unfolding tightened
step_held floor s b d h = go (limits d) (lt (motor_limit floor b d) s) refl
  where
    l : Float
    l = motor_limit floor b d

    go : (p q : Bool) → lt l s ≡ q → Held (cond (p && q) l s)
    go false q e = h
    go true false e = h
    go true true e =
        let n : Number binary32 l = record { fits = limit_fits floor b d; number = le_number l s (less_le l s e) } in
        record { number = n; most = le_trans n h.number one_number (less_le l s e) h.most }

walk_held : (floor s : Float) (bs ds : List Float) → Held s → Held (walk floor s bs ds)
unfolding walk
walk_held floor s [] ds h = h
walk_held floor s (b ∷ bs) [] h = h
walk_held floor s (b ∷ bs) (d ∷ ds) h = walk_held floor (tightened floor s b d) bs ds (step_held floor s b d h)

-- ---- the end

-- a held scale that is not finite is negative
pub held_settles : (s : Float) → Held s → cond (lt s 0f) 0f s ≡ settled s
unfolding settled is_nan
held_settles nan h = absurd h.number.number
held_settles (inf true) h = unfold lt of_bits in refl
held_settles (inf false) h = absurd (true≢false (sym (unfold le lt eq of_bits in h.most)))
held_settles (fin s m e) h = go (lt (fin s m e) 0f)
  where
    go : (p : Bool) → cond p 0f (fin s m e) ≡ cond (p || false) 0f (fin s m e)
    go true = refl
    go false = refl

settled_between : (s : Float) → Held s → Between 0f 1f (settled s)
unfolding settled
settled_between s h = go (lt s 0f) (finite s) refl
  where
    none : Between 0f 1f 0f
    none = unfold le lt eq of_bits in record { from = refl; to = refl }

    go : (p q : Bool) → lt s 0f ≡ p → Between 0f 1f (cond (p || not q) 0f s)
    go true q e = none
    go false false e = none
    go false true e = record { from = not_under h.number zero_number e; to = h.most }

pub scale_between : (floor : Float) (bs ds : List Float) → Between 0f 1f (fit_scale floor bs ds)
unfolding fit_scale
scale_between floor bs ds = settled_between (walk floor 1f bs ds) (walk_held floor 1f bs ds one_held)

-- ---- and it is finite: what is not has become +0

settled_finite : (s : Float) → T (finite (settled s))
unfolding settled
settled_finite s = go (lt s 0f) (finite s) refl
  where
    go : (p q : Bool) → finite s ≡ q → T (finite (cond (p || not q) 0f s))
    go true q e = zero_finite.finite
    go false false e = zero_finite.finite
    go false true e = rw e tt

pub scale_finite : (floor : Float) (bs ds : List Float) → T (finite (fit_scale floor bs ds))
unfolding fit_scale
scale_finite floor bs ds = settled_finite (walk floor 1f bs ds)

-- ---- and the format holds it

pub scale_fits : (floor : Float) (bs ds : List Float) → T (fits binary32 (fit_scale floor bs ds))
unfolding fit_scale settled
scale_fits floor bs ds =
    let s = walk floor 1f bs ds in
    cond-fits binary32 (lt s 0f || not (finite s)) 0f s zero_finite.fits
    (walk_held floor 1f bs ds one_held).number.fits

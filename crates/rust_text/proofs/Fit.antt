-- The Rust's fit scale is document 01's, and so is thrust-floor's own walk for it: a limit for each sign of a delta,
-- each with a test of its own, is one limit with one test. Assumes nothing.
use mathlib.Core.Path.{◌≡◌, refl, sym, ap, ap₂, ◌∙◌}
use mathlib.Core.Bool.{Bool, true, false, ◌&&◌, ◌||◌, cond}
use mathlib.Core.List.{List, [], ◌∷◌, map}
use lib.ListN.{length}
use lib.Ieee.{Float, lt, neg}
use Rattle.general.proofs.Four.{four}
use Rattle.binary32.specs.Arithmetic.{◌-f◌, ◌/f◌, 1f, small}
use Rattle.fit.specs.Fit.{limits, motor_limit, tightened, walk, settled, fit_scale}
use Rattle.rust_text.specs.Forms.{◌!◌, ◌<f◌, ◌>f◌, for_each}
use Rattle.rust_text.specs.Fit.{scale_to_fit}
use Rattle.rust_text.specs.ThrustFloor.{torque_scale}

-- a step of the Rust's walk, at a motor with base b and delta d
abbrev pub step : Float → Float → Float → Float → Float
step floor b d s =
    cond (d >f small) (cond ((1f -f b) /f d <f s) ((1f -f b) /f d) s)
    (cond (d <f neg small) (cond ((b -f floor) /f neg d <f s) ((b -f floor) /f neg d) s) s)

pub step_is : (floor b d s : Float) → step floor b d s ≡ tightened floor s b d
unfolding tightened limits motor_limit
step_is floor b d s = go (lt small d) (lt d (neg small))
  where
    go : (up down : Bool)
        → cond up (cond (lt ((1f -f b) /f d) s) ((1f -f b) /f d) s)
        (cond down (cond (lt ((b -f floor) /f neg d) s) ((b -f floor) /f neg d) s) s)
        ≡ cond ((up || down) && lt (cond up ((1f -f b) /f d) ((b -f floor) /f neg d)) s)
        (cond up ((1f -f b) /f d) ((b -f floor) /f neg d)) s
    go true down = refl
    go false true = refl
    go false false = refl

-- the four steps of `scale_to_fit`, one after another
four_steps : (floor b₁ b₂ b₃ b₄ d₁ d₂ d₃ d₄ : Float)
    → step floor b₄ d₄ (step floor b₃ d₃ (step floor b₂ d₂ (step floor b₁ d₁ 1f)))
    ≡ walk floor 1f (b₁ ∷ b₂ ∷ b₃ ∷ b₄ ∷ []) (d₁ ∷ d₂ ∷ d₃ ∷ d₄ ∷ [])
unfolding walk
four_steps floor b₁ b₂ b₃ b₄ d₁ d₂ d₃ d₄ =
    rw (step_is floor b₁ d₁ 1f, step_is floor b₂ d₂ _, step_is floor b₃ d₃ _, step_is floor b₄ d₄ _)

pub scale_to_fit_is : (base delta : List Float) (floor : Float) → length base ≡ 4 → length delta ≡ 4
    → scale_to_fit base delta floor ≡ fit_scale floor base delta
unfolding scale_to_fit fit_scale settled
scale_to_fit_is base delta floor hb hd =
    ap settled (four_steps floor (base ! 0) (base ! 1) (base ! 2) (base ! 3) (delta ! 0) (delta ! 1) (delta ! 2)
    (delta ! 3))
    ∙ ap₂ (λ (b d : List Float). fit_scale floor b d) (sym (four base hb)) (sym (four delta hd))

-- thrust-floor's own walk, over one base
own_walk : (floor base s : Float) (d : List Float)
    → for_each d (λ di s. step floor base di s) s ≡ walk floor s (map (λ e. base) d) d
unfolding walk
own_walk floor base s [] = refl
own_walk floor base s (x ∷ d) =
    ap (for_each d (λ di s. step floor base di s)) (step_is floor base x s)
    ∙ own_walk floor base (tightened floor s base x) d

pub torque_scale_is : (base floor : Float) (d : List Float)
    → torque_scale base floor d ≡ fit_scale floor (map (λ e. base) d) d
unfolding torque_scale fit_scale settled
torque_scale_is base floor d = ap settled (own_walk floor base 1f d)

-- Where no motor's limit is under 1, the fit scale is 1; and the search for such a motor, step by step. Assumes
-- nothing.
use mathlib.Core.Path.{◌≡◌, refl, sym, ap, ◌∙◌}
use mathlib.Core.Bool.{Bool, true, false, ◌||◌, cond}
use mathlib.Core.List.{List, [], ◌∷◌}
use mathlib.Core.Logic.{◌⊎◌}
use lib.Ieee.{Float, lt}
use Rattle.general.proofs.Neither.{neither}
use Rattle.binary32.specs.Arithmetic.{1f}
use Rattle.fit.specs.Cut.{limit_of, is_cut}
use Rattle.fit.specs.Fit.{tightened, walk, settled, fit_scale}
use Rattle.fit.proofs.Step.{limited_step}
use Rattle.fit.proofs.Walk.{none_left}
use Rattle.fit.proofs.Bounded.{one_held, not_above}
use Rattle.fit.proofs.Fitting.{one_settles}

-- ---- step by step

pub or_none : (p : Bool) {q : Bool} → q ≡ false → p || q ≡ p
or_none true e = refl
or_none false e = e

-- the first motor of those left, put to what was found before it
pub cut_next : (found : Bool) (floor : Float) {bs ds cs es : List Float} {b d : Float} → bs ≡ b ∷ cs → ds ≡ d ∷ es
    → (found || lt (limit_of floor b d) 1f) || is_cut floor cs es ≡ found || is_cut floor bs ds
unfolding is_cut
cut_next true floor p q = refl
cut_next false floor p q = rw (p, q)

pub cut_over : (floor : Float) {bs ds : List Float} → (bs ≡ []) ⊎ (ds ≡ []) → is_cut floor bs ds ≡ false
unfolding is_cut
cut_over floor = none_left (λ bs ds. is_cut floor bs ds ≡ false) (λ ds. refl) (λ b bs. refl)

-- ---- no motor

uncut_step : (floor b d : Float) → lt (limit_of floor b d) 1f ≡ false → tightened floor 1f b d ≡ 1f
uncut_step floor b d e =
    sym (limited_step floor 1f b d (not_above one_held)) ∙ ap (λ (t : Bool). cond t (limit_of floor b d) 1f) e

uncut_walk : (floor : Float) (bs ds : List Float) → is_cut floor bs ds ≡ false → walk floor 1f bs ds ≡ 1f
unfolding is_cut walk
uncut_walk floor [] ds e = refl
uncut_walk floor (b ∷ bs) [] e = refl
uncut_walk floor (b ∷ bs) (d ∷ ds) e =
    let each = neither (lt (limit_of floor b d) 1f) (is_cut floor bs ds) e in
    ap (λ (s : Float). walk floor s bs ds) (uncut_step floor b d each.0) ∙ uncut_walk floor bs ds each.1

pub uncut_scale : (floor : Float) (bs ds : List Float) → is_cut floor bs ds ≡ false → fit_scale floor bs ds ≡ 1f
unfolding fit_scale
uncut_scale floor bs ds e = ap settled (uncut_walk floor bs ds e) ∙ one_settles

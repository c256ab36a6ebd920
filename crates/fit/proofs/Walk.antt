-- The walk step by step: one step takes the first base and the first delta, and where one of the two lists has nothing
-- the walk is over; so of one base for all there may be more than there are deltas. Assumes nothing.
use mathlib.Core.Path.{◌≡◌, refl, ap}
use mathlib.Core.List.{List, [], ◌∷◌, map}
use mathlib.Core.Logic.{◌⊎◌, inl, inr}
use Prim.Native.Nat.{ℕ, zero, suc, ◌≤◌}
use native.Mathlib.Omega.{arith}
use lib.ListN.{length, replicate}
use lib.Ieee.{Float}
use Rattle.binary32.specs.Arithmetic.{1f}
use Rattle.fit.specs.Fit.{tightened, walk, settled, fit_scale}

-- one step takes the first of both
pub walk_next : (floor s : Float) {bs ds cs es : List Float} {b d : Float} → bs ≡ b ∷ cs → ds ≡ d ∷ es
    → walk floor (tightened floor s b d) cs es ≡ walk floor s bs ds
unfolding walk
walk_next floor s p q = rw (p, q)

-- what holds where one of two lists has nothing
pub none_left : (P : List Float → List Float → Type 0) → ((ds : List Float) → P [] ds)
    → ((b : Float) (bs : List Float) → P (b ∷ bs) [])
    → {bs ds : List Float} → (bs ≡ []) ⊎ (ds ≡ []) → P bs ds
none_left P none_first none_second {bs = []} {ds} h = none_first ds
none_left P none_first none_second {bs = b ∷ bs} {ds = []} h = none_second b bs
none_left P none_first none_second {bs = b ∷ bs} {ds = d ∷ ds} (inl e) =
    let no : ⊥ = omega (arith, ap length e) in absurd no
none_left P none_first none_second {bs = b ∷ bs} {ds = d ∷ ds} (inr e) =
    let no : ⊥ = omega (arith, ap length e) in absurd no

-- nothing is left of one of two lists: the walk is over
pub walk_over : (floor s : Float) {bs ds : List Float} → (bs ≡ []) ⊎ (ds ≡ []) → walk floor s bs ds ≡ s
unfolding walk
walk_over floor s = none_left (λ bs ds. walk floor s bs ds ≡ s) (λ ds. refl) (λ b bs. refl)

-- one base for all, as often as there are deltas or more often
walk_one_base : (floor s b : Float) (n : ℕ) (ds : List Float) → length ds ≤ n
    → walk floor s (replicate n b) ds ≡ walk floor s (map (λ d. b) ds) ds
unfolding walk
walk_one_base floor s b zero [] h = refl
walk_one_base floor s b (suc n) [] h = refl
walk_one_base floor s b zero (d ∷ ds) h = let no : ⊥ = omega arith in absurd no
walk_one_base floor s b (suc n) (d ∷ ds) h = walk_one_base floor (tightened floor s b d) b n ds (omega arith)

pub scale_one_base : (floor b : Float) (n : ℕ) (ds : List Float) → length ds ≤ n
    → fit_scale floor (replicate n b) ds ≡ fit_scale floor (map (λ d. b) ds) ds
unfolding fit_scale
scale_one_base floor b n ds h = ap settled (walk_one_base floor 1f b n ds h)

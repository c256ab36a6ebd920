-- The Rust's `det3` and `solve3` are ours, of three rows of three f32s and three numbers on the right: its `Option` is
-- the language's, and the sign bit masked is the absolute value. Assumes nothing.
use mathlib.Core.Path.{◌≡◌, refl, ap}
use mathlib.Core.Bool.{Bool, true, false, not, ◌||◌, cond}
use mathlib.Core.List.{List, [], ◌∷◌}
use mathlib.Core.Option.{Option, none, some}
use lib.Dec.{T}
use lib.ListN.{length}
use lib.Ieee.{Float, nan, binary32, fits, lt}
use lib.Ieee.Fits.{add-fits}
use lib.Ieee.Scale.{finite}
use Rattle.std.specs.Prelude as Ours
use Rattle.std.specs.Prelude.{Some, None}
use Rattle.general.proofs.Four.{three}
use Rattle.binary32.specs.Arithmetic.{small, absolute}
use Rattle.binary32.proofs.Masked.{masked_absolute_binary32}
use Rattle.solve.specs.Solve.{element, determinant, singular, cramer, solution}
use Rattle.rust_text.specs.Numbers.{libm_fabsf}
use Rattle.rust_text.specs.Solve.{det3, solve3}

pub det3_is : (a : List (List Float)) → det3 a ≡ determinant (element a)
unfolding det3
det3_is a = refl

-- the language's `Option` as that of these definitions
abbrev pub optional : Ours.Option (List Float) → Option (List Float)
optional None = none
optional (Some x) = some x

-- the sign bit masked
pub libm_fabsf_is : (x : Float) → T (fits binary32 x) → libm_fabsf x ≡ absolute x
unfolding libm_fabsf
libm_fabsf_is = masked_absolute_binary32

-- a determinant by which nothing is divided
singular_is : (det : Float) → T (fits binary32 det) → not (finite det) || lt (libm_fabsf det) small ≡ singular det
unfolding singular
singular_is det h = ap (λ (z : Float). not (finite det) || lt z small) (libm_fabsf_is det h)

-- a choice between the two answers
chosen : (b : Bool) (x : List Float) → cond b none (some x) ≡ optional (cond b None (Some x))
chosen true x = refl
chosen false x = refl

-- of three rows and three numbers, written out
solved : (r₁ r₂ r₃ : List Float) (v₁ v₂ v₃ : Float)
    → solve3 (r₁ ∷ r₂ ∷ r₃ ∷ []) (v₁ ∷ v₂ ∷ v₃ ∷ [])
    ≡ optional (solution (r₁ ∷ r₂ ∷ r₃ ∷ []) (v₁ ∷ v₂ ∷ v₃ ∷ []))
unfolding solve3 det3 solution cramer
solved r₁ r₂ r₃ v₁ v₂ v₃ =
    let det = determinant (element (r₁ ∷ r₂ ∷ r₃ ∷ [])) in
    rw (singular_is det (add-fits binary32 _ _)) (chosen (singular det) _)

pub solve3_is : (a : List (List Float)) (v : List Float) → length a ≡ 3 → length v ≡ 3
    → solve3 a v ≡ optional (solution a v)
solve3_is a v ha hv =
    rw (three [] a ha, three nan v hv) (solved _ _ _ _ _ _)

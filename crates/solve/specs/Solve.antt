-- Three equations in three unknowns by Cramer's rule, as document 01 asks for it in "The five quad mixes", 5,
-- rotor-out: exactly as `det3` and `solve3` of relay-mix-quad write it. Each sign is one rounded operation, in the
-- order of the Rust's. A matrix is the list of its rows. Definitions only.
use Rattle.std.specs.Prelude.{Bool, not, ◌||◌, cond, List, [], ◌∷◌, ℕ, get_or, set, Float, Option, Some, None}
use Rattle.std.specs.Float.{nan}
use Rattle.std.specs.Option.{unwrap_or}
use Rattle.std.specs.Float.Ieee.{lt}
use Rattle.std.specs.Float.Ieee.Scale.{finite}
use Rattle.binary32.specs.Arithmetic.{◌+f◌, ◌-f◌, ◌*f◌, ◌/f◌, 0f, small, absolute}

-- ---- a determinant

-- The element in row i and column j, both counted from 0, the Rust's `a[i][j]`. (Past the matrix it is `nan`, which no
-- definition here comes to.)
abbrev pub element : List (List Float) → ℕ → ℕ → Float
element a i j = get_or (get_or a i []) j nan

-- The determinant by the elements of row 0, each times its minor, signs +, -, + (document 01, rotor-out: `det3`).
-- It is an `abbrev`, so that `det3` is proved by computing; the definitions that cite it are shut.
abbrev pub determinant : (ℕ → ℕ → Float) → Float
determinant a =
    a 0 0 *f (a 1 1 *f a 2 2 -f a 1 2 *f a 2 1)
    -f a 0 1 *f (a 1 0 *f a 2 2 -f a 1 2 *f a 2 0)
    +f a 0 2 *f (a 1 0 *f a 2 1 -f a 1 1 *f a 2 0)

-- ---- a determinant by which nothing is divided

-- The determinant is not finite, or its size is under small (document 01, rotor-out: the Rust's `!det.is_finite() ||
-- libm_fabsf(det) < 1.0e-6`).
unfoldable pub singular : Float → Bool
singular det = not (finite det) || lt (absolute det) small

-- ---- the solution

-- The matrix a with v in row i and column j, the Rust's `a[i][j] = v`.
abbrev pub put : List (List Float) → ℕ → ℕ → Float → List (List Float)
put a i j v = set a i (set (get_or a i []) j v)

-- The matrix a with column k replaced by v, row by row (document 01, rotor-out: `row[k] = *rk` of `solve3`).
abbrev pub replaced : List (List Float) → ℕ → List Float → List (List Float)
replaced a k v = put (put (put a 0 k (get_or v 0 nan)) 1 k (get_or v 1 nan)) 2 k (get_or v 2 nan)

-- Unknown k: the determinant of a with column k replaced by v, divided by that of a, det (document 01, rotor-out:
-- Cramer's rule).
unfoldable pub cramer : List (List Float) → ℕ → List Float → Float → Float
cramer a k v det = determinant (element (replaced a k v)) /f det

-- The three unknowns, or, where a is singular, none (document 01, rotor-out: `solve3` and its `Option`).
unfoldable pub solution : List (List Float) → List Float → Option (List Float)
solution a v =
    let det = determinant (element a) in
    cond
    (singular det)
    None
    (Some (cramer a 0 v det ∷ cramer a 1 v det ∷ cramer a 2 v det ∷ []))

-- what is taken for the three unknowns: themselves, or three +0 where there are none
abbrev pub or_zeros : Option (List Float) → List Float
or_zeros x = unwrap_or x (0f ∷ 0f ∷ 0f ∷ [])

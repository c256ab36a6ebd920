-- Every operand that a format holds falls into exactly one class of specs/Tests.antt, and the kit's `finite` and
-- `is_nan` are the answers that the tables of IEEE 754-2019, 5.7.2, give for it. In either format. Assumes nothing.
use mathlib.Core.Path.{◌≡◌, refl, sym, ap, ◌∙◌}
use mathlib.Core.Logic.{inl, inr}
use mathlib.Core.Bool.{Bool, true, false, cond}
use Prim.Native.Nat.{ℕ, ◌-◌, ◌≤◌, ◌<◌}
use native.Mathlib.Nat.{lt_irrefl, not-le_of_lt}
use native.Mathlib.Decide.{dec_le}
use native.Mathlib.Omega.{arith}
use borrow.Author.Tests.{lt-ltb, le-ltb, ne_eqb}
use lib.Dec.{T, ltb, eqb}
use lib.Pow.{pow_pos, pow_mono}
use lib.IntN.{pos}
use lib.Ieee.{Float, nan, inf, fin, Format, prec, fits, is_nan}
use lib.Ieee.Fits.{two}
use lib.Ieee.Scale.{finite, overflow}
use Rattle.binary32.specs.Whole.{magnitude}
use Rattle.binary32.specs.HalfUnit.{least_normal}
use Rattle.binary32.specs.Operations.{zero_of}
use Rattle.binary32.specs.Tests.{Class, zeros, subnormals, normals, infinities, nans, FallsInto}
use Rattle.binary32.specs.Tests.{finite_holds, nan_holds}
use Rattle.binary32.proofs.Magnitude.{is_finite, finite_under, magnitude_zero}
use Rattle.binary32.proofs.OneResult.{zero_or_some}

-- ---- the class of x, computed

-- the class of a number of the size n
unfoldable of_size : Format → ℕ → Class
of_size f n = cond (eqb n 0) zeros (cond (ltb n (least_normal f)) subnormals normals)

class_of : Format → Float → Class
class_of f nan = nans
class_of f (inf s) = infinities
class_of f (fin s m e) = of_size f (magnitude f (fin s m e))

-- ---- it meets the rows

some_normal : (f : Format) → 0 < least_normal f
unfolding least_normal
some_normal f = pow_pos (prec f - 1)

normal_under : (f : Format) → least_normal f ≤ overflow f
unfolding least_normal
normal_under f = pow_mono (omega (arith, two f))

size_subnormal : (f : Format) (n : ℕ) → 0 < n → n < least_normal f → of_size f n ≡ subnormals
unfolding of_size
size_subnormal f n p l = rw (ne_eqb n 0 (λ z. omega arith), lt-ltb n (least_normal f) l)

size_normal : (f : Format) (n : ℕ) → least_normal f ≤ n → of_size f n ≡ normals
unfolding of_size
size_normal f n p = rw (ne_eqb n 0 (λ z. omega (arith, some_normal f)), le-ltb n (least_normal f) p)

module _ (f : Format) where
  zero_class : (s : Bool) → class_of f (zero_of s) ≡ zeros
  unfolding class_of of_size
  zero_class s = rw (magnitude_zero f s (pos 0))

  subnormal_class : (x : Float) → 0 < magnitude f x → magnitude f x < least_normal f → class_of f x ≡ subnormals
  unfolding class_of magnitude
  subnormal_class nan p l = absurd (lt_irrefl 0 p)
  subnormal_class (inf s) p l = absurd (not-le_of_lt l (normal_under f))
  subnormal_class (fin s m e) p l = size_subnormal f _ p l

  normal_class : (x : Float) → least_normal f ≤ magnitude f x → magnitude f x < overflow f → class_of f x ≡ normals
  unfolding class_of magnitude
  normal_class nan p l = absurd (not-le_of_lt (some_normal f) p)
  normal_class (inf s) p l = absurd (lt_irrefl (overflow f) l)
  normal_class (fin s m e) p l = size_normal f _ p

falls : (f : Format) (x : Float) → FallsInto f x (class_of f x)
unfolding class_of
falls f x = record {
  zero = λ s e. rw e (zero_class f s);
  subnormal = subnormal_class f x;
  normal = normal_class f x;
  infinite = λ s e. rw e;
  not_a_number = λ e. rw e;
}

-- ---- the tables' answers for it

-- a table that has one answer for zeros, subnormals and normals has it for every size
one_answer : (table : Class → Bool) {b : Bool} → table zeros ≡ b → table subnormals ≡ b → table normals ≡ b
    → (f : Format) (n : ℕ) → table (of_size f n) ≡ b
unfolding of_size
one_answer table {b} zero subnormal normal f n = go (eqb n 0) (ltb n (least_normal f))
  where
    go : (c d : Bool) → table (cond c zeros (cond d subnormals normals)) ≡ b
    go true d = zero
    go false true = subnormal
    go false false = normal

finite_class : (f : Format) (x : Float) → finite x ≡ finite_holds (class_of f x)
unfolding class_of finite_holds
finite_class f nan = refl
finite_class f (inf s) = refl
finite_class f (fin s m e) = sym (one_answer finite_holds refl refl refl f (magnitude f (fin s m e)))

nan_class : (f : Format) (x : Float) → is_nan x ≡ nan_holds (class_of f x)
unfolding is_nan class_of nan_holds
nan_class f nan = refl
nan_class f (inf s) = refl
nan_class f (fin s m e) = sym (one_answer nan_holds refl refl refl f (magnitude f (fin s m e)))

-- ---- the laws

-- there is a class that the rows allow
pub class_of_lem : (f : Format) (x : Float) → (c : Class) × FallsInto f x c
class_of_lem f x = (class_of f x, falls f x)

-- and for an operand that the format holds only one
pub class_determined : {f : Format} (x : Float) {c d : Class} → T (fits f x) → FallsInto f x c → FallsInto f x d → c ≡ d
class_determined nan h a b = a.not_a_number refl ∙ sym (b.not_a_number refl)
class_determined (inf s) h a b = a.infinite s refl ∙ sym (b.infinite s refl)
class_determined {f} (fin s m e) h a b =
    let x = fin s m e in
    let number = is_finite h tt in
    elim (zero_or_some number) [
      | inl z ↦ a.zero _ z ∙ sym (b.zero _ z)
      | inr g ↦ elim (dec_le (least_normal f) (magnitude f x)) [
        | yes l ↦ a.normal l (finite_under number) ∙ sym (b.normal l (finite_under number))
        | no n ↦
            let l : magnitude f x < least_normal f = omega arith in
            a.subnormal g l ∙ sym (b.subnormal g l)
      ]
    ]

-- for which the kit's `finite` is the answer of the standard's isFinite
pub finite_answers : {f : Format} {x : Float} {c : Class} → T (fits f x) → FallsInto f x c → finite x ≡ finite_holds c
finite_answers {f} {x} h a = finite_class f x ∙ ap finite_holds (class_determined x h (falls f x) a)

-- and the kit's `is_nan` that of the standard's isNaN
pub nan_answers : {f : Format} {x : Float} {c : Class} → T (fits f x) → FallsInto f x c → is_nan x ≡ nan_holds c
nan_answers {f} {x} h a = nan_class f x ∙ ap nan_holds (class_determined x h (falls f x) a)

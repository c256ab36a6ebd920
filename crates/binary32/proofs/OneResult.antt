-- For every two operands the rows of specs/Operations.antt leave one value, so one result by bits unless it is the NaN:
-- two ways of computing that meet what IEEE 754-2019 asks of an operation give the same, and the kit's is one. Rounding
-- leaves one number, a zero's sign aside, and the rows of 6.3 its sign. In either format. Assumes nothing.
use mathlib.Core.Path.{◌≡◌, refl, sym, ◌∙◌, subst}
use mathlib.Core.Logic.{◌⊎◌, inl, inr}
use mathlib.Core.Bool.{Bool, true, false, not, ◌||◌}
use Prim.Native.Nat.{ℕ, zero, suc, ◌<◌}
use native.Mathlib.Nat.{zero-lt-suc, eq-zero-or-pos, mul-pos}
use lib.Dec.{T}
use lib.Pow.{pow_pos}
use lib.IntN.{ℤ, pos, negsuc, nat_abs, ℤ_discrete, ◌+ℤ◌}
use lib.Ieee.{Float, inf, fin, Format, low, fits, is_nan}
use lib.Ieee.Fits.{neg-fits}
use lib.Ieee.Scale.{finite}
use Rattle.binary32.specs.Whole.{negative, magnitude, whole_of}
use Rattle.binary32.specs.Nearest.{RoundsTo}
use Rattle.binary32.specs.Operations.{zero_of, Addition, Subtraction, Multiplication, Division}
use Rattle.binary32.proofs.Magnitude.{Finite, is_finite, finite_number, by_number₂, magnitude_zero, same_number}
use Rattle.binary32.proofs.Zero.{rounded_some}
use Rattle.binary32.proofs.Delivered.{delivered_toward, delivered_rounded}
use Rattle.binary32.proofs.Rounded.{same_rounded}
use Rattle.binary32.proofs.Sides.{side, side_sign}
use Rattle.binary32.proofs.Integers.{own_pair}

-- ---- every two operands fall under a row

-- what holds where one is a NaN, and of every two numbers, holds of every two operands
pub by_operands : {f : Format} {x y : Float} (P : Float → Float → Type 0)
    → (T (is_nan x || is_nan y) → P x y)
    → ((s t : Bool) → P (inf s) (inf t))
    → ((s t : Bool) (n : ℕ) (d : ℤ) → Finite f (fin t n d) → P (inf s) (fin t n d))
    → ((s : Bool) (m : ℕ) (e : ℤ) (t : Bool) → Finite f (fin s m e) → P (fin s m e) (inf t))
    → ((s : Bool) (m : ℕ) (e : ℤ) (t : Bool) (n : ℕ) (d : ℤ) → T (fits f (fin s m e)) → T (fits f (fin t n d))
    → P (fin s m e) (fin t n d))
    → T (fits f x) → T (fits f y) → P x y
by_operands {f} {x} {y} P nn ii if fi ff hx hy =
    go (is_nan x) (is_nan y) nn
    (λ p q. by_number₂ P ii if fi ff (record { fits = hx; number = p }) (record { fits = hy; number = q }))
  where
    go : (a b : Bool) → (T (a || b) → P x y) → (T (not a) → T (not b) → P x y) → P x y
    go true b some none = some tt
    go false true some none = some tt
    go false false some none = none tt tt

-- a finite number is a zero, or counts something
pub zero_or_some : {f : Format} {x : Float} → Finite f x → (x ≡ zero_of (negative x)) ⊎ (0 < magnitude f x)
unfolding negative fits is_nan
zero_or_some {f} {x} h = elim (eq-zero-or-pos (magnitude f x)) [
  | inl e ↦ inl (same_number (finite_number h) (record { fits = tt; number = tt }) refl
      (e ∙ sym (magnitude_zero f (negative x) (pos 0))))
  | inr g ↦ inr g
]

record Determined (R : Float → Type 0) : Type 0 where
  one : {z w : Float} → R z → R w → z ≡ w

-- a row that names the result leaves no other
named : {R : Float → Type 0} {v : Float} → ((z : Float) → R z → z ≡ v) → Determined R
named h = record { one = λ {z} {w} a b. h z a ∙ sym (h w b) }

-- ---- the rows leave one result

infinities : {f : Format} (s t : Bool) → Determined (Addition f (inf s) (inf t))
infinities true true = named (λ z r. r.infinite_both true refl refl)
infinities false false = named (λ z r. r.infinite_both false refl refl)
infinities true false = named (λ z r. r.invalid true refl refl)
infinities false true = named (λ z r. r.invalid false refl refl)

-- rounding leaves one number, and so one value where there is one sign
delivered_one : {f : Format} {w : ℤ} {c : ℕ} {z y : Float} → 0 < c → RoundsTo f w c z → RoundsTo f w c y
    → negative z ≡ negative y → z ≡ y
delivered_one {w} C a b = same_rounded (delivered_rounded a (own_pair w) C) (delivered_rounded b (own_pair w) C)

-- and the sign of whole units that are not nothing, since one unit is a number of the format
some_units : (w : ℤ) → (w ≡ pos 0 → ⊥) → 0 < nat_abs w
some_units (pos zero) n = absurd (n refl)
some_units (pos (suc a)) n = zero-lt-suc a
some_units (negsuc a) n = zero-lt-suc a

delivered_sign : {f : Format} {w : ℤ} {z : Float} → RoundsTo f w 1 z → (w ≡ pos 0 → ⊥) → negative z ≡ side w
delivered_sign {f} {w} {z} r n =
    side_sign (side w) f z (subst (λ (k : ℕ). 0 < k) (sym (delivered_toward r (pow_pos 0)).there)
    (rounded_some f (nat_abs w) (some_units w n)))

-- a sum has one by its row where it is exactly zero, and elsewhere that of the exact sum
sum_sign : {f : Format} {x y z w : Float} → T (finite x) → T (finite y) → Addition f x y z → Addition f x y w
    → negative z ≡ negative w
sum_sign {f} {x} {y} p q a b = elim (ℤ_discrete (whole_of f x +ℤ whole_of f y) (pos 0)) [
  | yes e ↦ a.zero p q e ∙ sym (b.zero p q e)
  | no n ↦ delivered_sign (a.rounded p q) n ∙ sym (delivered_sign (b.rounded p q) n)
]

pub addition_determined : {f : Format} {x y z w : Float} → T (fits f x) → T (fits f y) → Addition f x y z
    → Addition f x y w → z ≡ w
addition_determined {f} hx hy =
    (by_operands (λ x y. Determined (Addition f x y))
    (λ h. named (λ z r. r.not_a_number h))
    infinities
    (λ s t n d h. named (λ z r. r.infinite_first s refl tt))
    (λ s m e t h. named (λ z r. r.infinite_second t tt refl))
    (λ s m e t n d p q.
    record { one = λ a b. delivered_one (pow_pos 0) (a.rounded tt tt) (b.rounded tt tt) (sum_sign tt tt a b) })
    hx hy).one

pub subtraction_determined : {f : Format} {x : Float} (y : Float) {z w : Float} → T (fits f x) → T (fits f y)
    → Subtraction f x y z → Subtraction f x y w → z ≡ w
subtraction_determined {f} y hx hy = addition_determined hx (neg-fits f y hy)

pub multiplication_determined : {f : Format} {x y z w : Float} → T (fits f x) → T (fits f y) → Multiplication f x y z
    → Multiplication f x y w → z ≡ w
unfolding magnitude
multiplication_determined {f} hx hy =
    (by_operands (λ x y. Determined (Multiplication f x y))
    (λ h. named (λ z r. r.not_a_number h))
    (λ s t. named (λ z r. r.infinite_first s refl (pow_pos _)))
    (λ s t n d h. elim (zero_or_some h) [
      | inl e ↦ named (λ z r. r.invalid_first s _ refl e)
      | inr g ↦ named (λ z r. r.infinite_first s refl g)
    ])
    (λ s m e t h. elim (zero_or_some h) [
      | inl e ↦ named (λ z r. r.invalid_second _ t e refl)
      | inr g ↦ named (λ z r. r.infinite_second t g refl)
    ])
    (λ s m e t n d p q. record {
      one =
          λ a b. delivered_one (pow_pos (low f)) (a.rounded tt tt) (b.rounded tt tt)
          (a.sign tt tt ∙ sym (b.sign tt tt));
    })
    hx hy).one

pub division_determined : {f : Format} {x y z w : Float} → T (fits f x) → T (fits f y) → Division f x y z
    → Division f x y w → z ≡ w
division_determined {f} hx hy =
    (by_operands (λ x y. Determined (Division f x y))
    (λ h. named (λ z r. r.not_a_number h))
    (λ s t. named (λ z r. r.invalid_infinities s t refl refl))
    (λ s t n d h. named (λ z r. r.infinite_first s refl tt))
    (λ s m e t h. named (λ z r. r.infinite_second t tt refl))
    (λ s m e t n d p q. elim (zero_or_some (is_finite q tt)) [
      | inl e₂ ↦ elim (zero_or_some (is_finite p tt)) [
        | inl e₁ ↦ named (λ z r. r.invalid_zeros _ _ e₁ e₂)
        | inr g ↦ named (λ z r. r.by_zero _ tt g e₂)
      ]
      | inr g ↦ record {
        one =
            λ a b. delivered_one (mul-pos g g) (a.rounded tt tt g) (b.rounded tt tt g)
            (a.sign tt tt g ∙ sym (b.sign tt tt g));
      }
    ])
    hx hy).one

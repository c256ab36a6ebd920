-- The kit's `neg`, and `absolute` of specs/Arithmetic.antt, meet every row of specs/Signs.antt: what IEEE 754-2019 asks
-- of negate and abs. And for every operand that the format holds the rows leave one value, so whatever meets them is
-- that. In either format. Assumes nothing.
use mathlib.Core.Path.{◌≡◌, refl, sym, ◌∙◌}
use mathlib.Core.Bool.{Bool, false, not}
use Prim.Native.Nat.{ℕ}
use lib.Dec.{T}
use lib.IntN.{ℤ}
use lib.Ieee.{Float, nan, inf, fin, Format, fits, neg}
use lib.Ieee.Fits.{neg-fits}
use lib.Ieee.Scale.{finite}
use Rattle.binary32.specs.Arithmetic.{absolute}
use Rattle.binary32.specs.Whole.{negative, magnitude}
use Rattle.binary32.specs.Signs.{SignChanged, Negation, AbsoluteValue}
use Rattle.binary32.proofs.Magnitude.{is_finite, finite_number, same_number}
use Rattle.binary32.proofs.Masked.{absolute_fits}

-- ---- an operation that changes the sign alone meets the rows

module _ (f : Format) (change : Bool → Bool) (op : Float → Float) (at_nan : op nan ≡ nan)
    (at_infinity : (s : Bool) → op (inf s) ≡ inf (change s))
    (at_number : (s : Bool) (m : ℕ) (e : ℤ) → op (fin s m e) ≡ fin (change s) m e) where
  number_stays : (x : Float) → T (finite x) → T (finite (op x))
  number_stays nan t = absurd t
  number_stays (inf s) t = absurd t
  number_stays (fin s m e) t = rw (at_number s m e) tt

  size_stays : (x : Float) → T (finite x) → magnitude f (op x) ≡ magnitude f x
  unfolding magnitude
  size_stays nan t = absurd t
  size_stays (inf s) t = absurd t
  size_stays (fin s m e) t = rw (at_number s m e)

  sign_changes : (x : Float) → T (finite x) → negative (op x) ≡ change (negative x)
  unfolding negative
  sign_changes nan t = absurd t
  sign_changes (inf s) t = absurd t
  sign_changes (fin s m e) t = rw (at_number s m e)

  sign_changed : (x : Float) → (T (fits f x) → T (fits f (op x))) → SignChanged f change x (op x)
  sign_changed x h = record {
    zero = λ s e. rw e (at_number s _ _);
    number = number_stays x;
    size = size_stays x;
    sign = sign_changes x;
    infinite = λ s e. rw e (at_infinity s);
    not_a_number = λ e. rw e at_nan;
    held = h;
  }

-- the kit's negation is the standard's, of every operand
pub negation : (f : Format) (x : Float) → Negation f x (neg x)
unfolding neg
negation f x = sign_changed f not neg refl (λ s. refl) (λ s m e. refl) x (neg-fits f x)

-- `absolute` is the standard's abs, of every operand
pub absolute_value : (f : Format) (x : Float) → AbsoluteValue f x (absolute x)
unfolding absolute
absolute_value f x =
    sign_changed f (λ s. false) absolute refl (λ s. refl) (λ s m e. refl) x (absolute_fits f x)

-- ---- the rows leave one value

-- two values that meet the rows for an operand that the format holds are one
pub sign_determined : {f : Format} {change : Bool → Bool} (x : Float) {z w : Float} → T (fits f x)
    → SignChanged f change x z → SignChanged f change x w → z ≡ w
sign_determined nan h a b = a.not_a_number refl ∙ sym (b.not_a_number refl)
sign_determined (inf s) h a b = a.infinite s refl ∙ sym (b.infinite s refl)
sign_determined (fin s m e) h a b =
    same_number (finite_number (is_finite (a.held h) (a.number tt)))
    (finite_number (is_finite (b.held h) (b.number tt)))
    (a.sign tt ∙ sym (b.sign tt)) (a.size tt ∙ sym (b.size tt))

-- what meets the rows of negate is the kit's negation
pub negation_is : {f : Format} {x z : Float} → T (fits f x) → Negation f x z → z ≡ neg x
negation_is {f} {x} h a = sign_determined x h a (negation f x)

-- what meets the rows of abs is `absolute`
pub absolute_value_is : {f : Format} {x z : Float} → T (fits f x) → AbsoluteValue f x z → z ≡ absolute x
absolute_value_is {f} {x} h a = sign_determined x h a (absolute_value f x)

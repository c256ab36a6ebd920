-- The last digit of a size, of those that the format keeps: it is the parity of the bit pattern, and of the q of a size
-- q * 2 ^ k that is written with as many digits as the format has, or with no shift. In either format. Assumes nothing.
use mathlib.Core.Path.{◌≡◌, refl, sym, ap, ◌∙◌, subst}
use mathlib.Core.Logic.{inl, inr}
use mathlib.Core.Bool.{Bool, true, false, cond}
use Prim.Native.Nat.{ℕ, zero, suc, ◌+◌, ◌-◌, ◌*◌, ◌/◌, ◌%◌, ◌^◌, ◌≤◌, ◌<◌}
use native.Mathlib.Nat.{mul_assoc, mul_comm, mul_left_comm, eq-or-lt_of_le, le_trans, le_of_eq, mul-le-mul_right}
use native.Mathlib.Decide.{dec_le}
use native.Mathlib.Omega.{arith}
use lib.Pow.{pow-add, pow_mono, pow-lt, shl_lt, shl-shr}
use lib.Ieee.{Float, Format, prec, size, hid, ones, top, to_bits}
use lib.Ieee.Digits.{size-lt, size-le}
use lib.Ieee.Fits.{two}
use Rattle.binary32.specs.Whole.{negative, magnitude}
use Rattle.binary32.proofs.Magnitude.{Finite, bits_of, bits_are, pow_split}

unfoldable pub last_digit : Format → ℕ → ℕ
last_digit f n = n / 2 ^ (size n - prec f) % 2

-- ---- the bit pattern ends with it: the weights of the sign and of the exponent's field are even

even_sum : (a b c : ℕ) → a % 2 ≡ 0 → b % 2 ≡ 0 → (a + b + c) % 2 ≡ c % 2
even_sum a b c p q = omega arith

even_times : (a b : ℕ) → a % 2 ≡ 0 → b * a % 2 ≡ 0
even_times a b h =
    let twice : a ≡ 2 * (a / 2) = omega arith in
    let out : b * (2 * (a / 2)) ≡ 2 * (b * (a / 2)) = mul_left_comm b 2 (a / 2) in
    subst (λ (n : ℕ). b * n % 2 ≡ 0) (sym twice) (omega arith)

hid_even : (f : Format) → hid f % 2 ≡ 0
hid_even f =
    let split : 2 ^ (prec f - 1) ≡ 2 ^ (prec f - 1 - 1) * 2 ^ 1 = pow_split (prec f - 1) 1 (omega (arith, two f)) in
    omega arith

sign_even : (f : Format) (s : Bool) → cond s (top f) 0 % 2 ≡ 0
sign_even f true =
    subst (λ (n : ℕ). n % 2 ≡ 0) (mul_comm (suc (ones f)) (hid f)) (even_times (hid f) (suc (ones f)) (hid_even f))
sign_even f false = refl

pub pattern_digit : {f : Format} {x : Float} → Finite f x → to_bits f x % 2 ≡ last_digit f (magnitude f x)
unfolding last_digit bits_of
pattern_digit {f} {x} h =
    let n = magnitude f x in
    let k = size n - prec f in
    ap (λ (b : ℕ). b % 2) (bits_are f x h.finite)
    ∙ even_sum (cond (negative x) (top f) 0) (k * hid f) (n / 2 ^ k) (sign_even f (negative x))
    (even_times (hid f) k (hid_even f))

-- ---- the digits of q * 2 ^ k

-- a size of a power of two or more has more digits than the exponent
more_digits : (n j : ℕ) → 2 ^ j ≤ n → j < size n
more_digits n j h = go (dec_le (size n) j)
  where
    go : Dec (size n ≤ j) → j < size n
    go (yes few) = omega (arith, size-lt n, pow_mono few)
    go (no many) = omega arith

digits_less : (f : Format) (q k : ℕ) → q < 2 ^ prec f → (0 < k → 2 ^ (prec f - 1) ≤ q) → last_digit f (q * 2 ^ k)
    ≡ q % 2
unfolding last_digit
digits_less f q k few full =
    let p = prec f in
    let n = q * 2 ^ k in
    let most : size n ≤ p + k = size-le n (p + k) (shl_lt p k few) in
    let least : k ≤ size n - p = go k full in
    let shift : size n - p ≡ k = omega arith in
    ap (λ (j : ℕ). n / 2 ^ j % 2) shift ∙ ap (λ (m : ℕ). m % 2) (shl-shr q k)
  where
    go : (k : ℕ) → (0 < k → 2 ^ (prec f - 1) ≤ q) → k ≤ size (q * 2 ^ k) - prec f
    go zero full = omega arith
    go (suc k) full =
        let reached : 2 ^ (prec f - 1 + suc k) ≤ q * 2 ^ suc k =
        le_trans (le_of_eq (pow-add 2 (prec f - 1) (suc k))) (mul-le-mul_right (2 ^ suc k) (full (omega arith))) in
        omega (arith, more_digits (q * 2 ^ suc k) (prec f - 1 + suc k) reached, two f)

-- q may be 2 ^ prec too, which has a digit more and ends with zeros
pub digit_of : (f : Format) (q k : ℕ) → q ≤ 2 ^ prec f → (0 < k → 2 ^ (prec f - 1) ≤ q)
    → last_digit f (q * 2 ^ k) ≡ q % 2
digit_of f q k most full = elim (eq-or-lt_of_le most) [
  | inl e ↦
      let half : 2 ^ prec f ≡ 2 ^ (prec f - 1) * 2 ^ 1 = pow_split (prec f) 1 (omega (arith, two f)) in
      let halved : q * 2 ^ k ≡ 2 ^ (prec f - 1) * 2 ^ (1 + k) =
      ap (λ (n : ℕ). n * 2 ^ k) (e ∙ half) ∙ mul_assoc (2 ^ (prec f - 1)) (2 ^ 1) (2 ^ k)
      ∙ ap (λ (n : ℕ). 2 ^ (prec f - 1) * n) (sym (pow-add 2 1 k)) in
      ap (last_digit f) halved ∙ digits_less f (2 ^ (prec f - 1)) (1 + k) (pow-lt (omega (arith, two f)))
      (λ h. omega arith) ∙ hid_even f ∙ omega arith
  | inr l ↦ digits_less f q k l full
]

-- so the bit pattern is even where the last digit is: that of a size written with all the digits of the format, or with
-- no shift
pub pattern_of_digits : {f : Format} {x : Float} (q k : ℕ) → Finite f x → magnitude f x ≡ q * 2 ^ k → q ≤ 2 ^ prec f
    → (0 < k → 2 ^ (prec f - 1) ≤ q) → to_bits f x % 2 ≡ q % 2
pattern_of_digits {f} q k h is most full = pattern_digit h ∙ ap (last_digit f) is ∙ digit_of f q k most full

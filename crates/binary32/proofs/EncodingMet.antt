-- What the kit reads from a bit pattern, `of_bits`, is what the rows of IEEE 754-2019, 3.4, say that it encodes, for
-- every pattern of the format's width, and they say it of no other value. What the kit writes for a value, `to_bits`,
-- is
-- a pattern that encodes it, the only one unless it is a NaN (specs/Encoding.antt). So the exponent's field of a
-- pattern tells whether the value is finite, and how large it is at most. In either format. Assumes nothing.
use mathlib.Core.Path.{◌≡◌, refl, sym, ap, ◌∙◌, subst}
use mathlib.Core.Bool.{Bool, true, not, cond}
use Prim.Native.Nat.{ℕ, zero, suc, ◌+◌, ◌-◌, ◌*◌, ◌^◌, ◌≤◌, ◌<◌}
use native.Mathlib.Nat.{eq_of_mul-eq-mul_right, mul-pos, mul-le-mul_left, mul-le-mul_right, le_trans, le_of_eq}
use native.Mathlib.Nat.{mul_assoc, mul_comm, mul_left_comm, pow-suc}
use native.Mathlib.Omega.{arith}
use borrow.Author.Tests.{eq-eqb, ne_eqb}
use lib.Dec.{T, eqb}
use lib.Pow.{pow_pos, pow-add, pow_mono}
use lib.Ieee.{Float, nan, inf, fin, Format, prec, low, odd, fits, is_nan, hid, ones, of_fields, of_bits, to_bits}
use lib.Ieee.Bits.{is_true, of_bits-fits, of_bits-to_bits, to_bits-lt, to_bits-of_bits}
use lib.Ieee.Exact.{HasValue, odd_sign}
use lib.Ieee.Scale.{finite}
use Rattle.binary32.specs.Whole.{negative, magnitude}
use Rattle.binary32.specs.Operations.{zero_of}
use Rattle.binary32.specs.Encoding.{width, trailing_width, bias, exponent_field, trailing_field, sign_set}
use Rattle.binary32.specs.Encoding.{all_ones, Value, Encodes}
use Rattle.binary32.proofs.Magnitude.{is_finite, finite_number, magnitude_of, magnitude_zero, same_number}
use Rattle.binary32.proofs.Fields.{table, trailing_in, by_row, kit_sign, kit_exponent, kit_trailing}

-- ---- the kit's reading of three fields

module _ (f : Format) (s : Bool) where
  at_ones : (e t : ℕ) → e ≡ ones f → of_fields f s e t ≡ cond (eqb t 0) (inf s) nan
  unfolding of_fields
  at_ones zero t h = let no : ⊥ = omega arith in absurd no
  at_ones (suc e) t h = rw (eq-eqb (suc e) (ones f) h)

  at_normal : (j t : ℕ) → suc j < ones f → of_fields f s (suc j) t ≡ odd (prec f) s (hid f + t) j (low f)
  unfolding of_fields
  at_normal j t h = rw (ne_eqb (suc j) (ones f) (λ e. omega arith))

  at_zero : (t : ℕ) → of_fields f s 0 t ≡ odd (prec f) s t 0 (low f)
  unfolding of_fields
  at_zero t = refl

read : (f : Format) (b : ℕ) → b < 2 ^ width f
    → of_bits f b ≡ of_fields f (sign_set f b) (exponent_field f b) (trailing_field f b)
unfolding of_bits
read f b h = rw (kit_sign f b h, kit_exponent f b, kit_trailing f b)

-- ---- a number of so many units

-- (1 + 2 ^ (1 - p) * T) * 2 ^ (E - bias), multiplied out, is so many units: one is 2 ^ (1 - bias) * 2 ^ (1 - p)
two_units : (f : Format) → 2 ^ bias f * 2 ^ trailing_width f ≡ 2 ^ low f * 2
two_units f =
    sym (pow-add 2 (bias f) (trailing_width f)) ∙ ap (λ (n : ℕ). 2 ^ n) (sym (table f).one_unit) ∙ pow-suc 2 (low f)

in_units : (f : Format) (q j : ℕ) → q * 2 ^ j * (2 ^ bias f * 2 ^ trailing_width f) ≡ 2 ^ suc j * q * 2 ^ low f
in_units f q j =
    ap (λ (n : ℕ). q * 2 ^ j * n) (two_units f) ∙ simp (pow-suc, mul_assoc, mul_comm, mul_left_comm)

finite_value : (x : Float) (s : Bool) (a c : ℕ) → HasValue x s a c → T (finite x)
finite_value nan s a c h = h
finite_value (inf t) s a c h = h
finite_value (fin t m e) s a c h = tt

value_sign : (x : Float) (s : Bool) (a c : ℕ) → HasValue x s a c → negative x ≡ s
unfolding negative
value_sign nan s a c h = absurd h
value_sign (inf t) s a c h = absurd h
value_sign (fin t m e) s a c h = h.0

-- what is held and written q * 2 ^ j units has the value of the row
value : (f : Format) (s : Bool) (q j : ℕ) {x : Float} → T (fits f x) → x ≡ odd (prec f) s q j (low f)
    → Value f s (2 ^ suc j * q) x
value f s q j {x} held e =
    let has : HasValue x s (q * 2 ^ j) (2 ^ low f) =
    subst (λ (x : Float). HasValue x s (q * 2 ^ j) (2 ^ low f)) (sym e) (odd_sign (prec f) s q j (low f)) in
    record {
      held = held;
      number = finite_value x s (q * 2 ^ j) (2 ^ low f) has;
      sign = value_sign x s (q * 2 ^ j) (2 ^ low f) has;
      size =
          ap (λ (n : ℕ). n * (2 ^ bias f * 2 ^ trailing_width f)) (magnitude_of f x s (q * 2 ^ j) has) ∙ in_units f q j;
    }

odd_nothing : (d : ℕ) (s : Bool) (k l : ℕ) → odd d s 0 k l ≡ zero_of s
unfolding odd
odd_nothing d s k l = refl

-- ---- reading

-- what the kit reads from a pattern is what the pattern encodes
pub decoding : (f : Format) (b : ℕ) → b < 2 ^ width f → Encodes f b (of_bits f b)
decoding f b h =
    let s = sign_set f b in
    let e = exponent_field f b in
    let t = trailing_field f b in
    record {
      not_a_number = λ p q.
          read f b h ∙ at_ones f s e t (p ∙ sym (table f).highest_field)
          ∙ ap (λ (c : Bool). cond c (inf s) nan) (ne_eqb t 0 (λ z. omega arith));
      infinite = λ p q.
          read f b h ∙ at_ones f s e t (p ∙ sym (table f).highest_field)
          ∙ ap (λ (c : Bool). cond c (inf s) nan) (eq-eqb t 0 q);
      normal = λ p q.
          let j = e - 1 in
          let from : e ≡ suc j = omega arith in
          let written : of_bits f b ≡ odd (prec f) s (2 ^ trailing_width f + t) j (low f) =
          read f b h ∙ ap (λ (n : ℕ). of_fields f s n t) from
          ∙ at_normal f s j t (omega (arith, (table f).highest_field))
          ∙ ap (λ (n : ℕ). odd (prec f) s (n + t) j (low f)) (table f).exponent_weight in
          subst (λ (n : ℕ). Value f s (2 ^ n * (2 ^ trailing_width f + t)) (of_bits f b)) (sym from)
          (value f s (2 ^ trailing_width f + t) j (of_bits-fits f b) written);
      subnormal = λ p q.
          value f s t 0 (of_bits-fits f b) (read f b h ∙ ap (λ (n : ℕ). of_fields f s n t) p ∙ at_zero f s t);
      zero = λ p q.
          read f b h ∙ ap (λ (n : ℕ). of_fields f s n t) p ∙ at_zero f s t
          ∙ ap (λ (n : ℕ). odd (prec f) s n 0 (low f)) q ∙ odd_nothing (prec f) s 0 (low f);
    }

-- ---- a pattern encodes one value

value_determined : {f : Format} {s : Bool} {n : ℕ} {x y : Float} → Value f s n x → Value f s n y → x ≡ y
value_determined {f} a b =
    same_number (finite_number (is_finite a.held a.number)) (finite_number (is_finite b.held b.number))
    (a.sign ∙ sym b.sign)
    (eq_of_mul-eq-mul_right (2 ^ bias f * 2 ^ trailing_width f)
    (mul-pos (pow_pos (bias f)) (pow_pos (trailing_width f)))
    _ _ (a.size ∙ sym b.size))

-- two values that a pattern encodes are one
pub encoded_determined : {f : Format} (b : ℕ) {x y : Float} → Encodes f b x → Encodes f b y → x ≡ y
encoded_determined {f} b v w =
    by_row f b
    (λ e t. v.not_a_number e t ∙ sym (w.not_a_number e t))
    (λ e t. v.infinite e t ∙ sym (w.infinite e t))
    (λ p l. value_determined (v.normal p l) (w.normal p l))
    (λ e t. value_determined (v.subnormal e t) (w.subnormal e t))
    (λ e t. v.zero e t ∙ sym (w.zero e t))

-- ---- writing

-- what the kit writes is a pattern of the format's width
pub pattern_in : (f : Format) (x : Float) → T (fits f x) → to_bits f x < 2 ^ width f
pattern_in f x h = subst (λ (n : ℕ). to_bits f x < n) (table f).patterns (to_bits-lt f x h)

-- that encodes the value
pub encoding : (f : Format) (x : Float) → T (fits f x) → Encodes f (to_bits f x) x
encoding f x h =
    subst (Encodes f (to_bits f x)) (of_bits-to_bits f x h) (decoding f (to_bits f x) (pattern_in f x h))

-- and no other pattern does, unless the value is a NaN
pub encoding_determined : {f : Format} (b : ℕ) {x : Float} → b < 2 ^ width f → T (not (is_nan x)) → Encodes f b x
    → b ≡ to_bits f x
encoding_determined {f} b {x} h n v =
    let is : x ≡ of_bits f b = encoded_determined b v (decoding f b h) in
    sym (to_bits-of_bits f b (subst (λ (n : ℕ). b < n) (sym (table f).patterns) h)
    (subst (λ (y : Float). T (not (is_nan y))) is n)) ∙ ap (to_bits f) (sym is)

-- ---- the test for finite, by the exponent's field

-- a value is finite exactly where the exponent's field of a pattern that encodes it is not all ones
pub finite_by_exponent : {f : Format} (b : ℕ) {x : Float} → Encodes f b x
    → finite x ≡ not (eqb (exponent_field f b) (all_ones f))
finite_by_exponent {f} b {x} v =
    by_row f b
    (λ e t. rw (v.not_a_number e t, eq-eqb (exponent_field f b) (all_ones f) e))
    (λ e t. rw (v.infinite e t, eq-eqb (exponent_field f b) (all_ones f) e))
    (λ p l. is_true (finite x) (v.normal p l).number ∙ sym (under l))
    (λ e t. is_true (finite x) (v.subnormal e t).number ∙ sym (under (not_all e)))
    (λ e t. rw (v.zero e t) (sym (under (not_all e))))
  where
    under : exponent_field f b < all_ones f → not (eqb (exponent_field f b) (all_ones f)) ≡ true
    under l = rw (ne_eqb (exponent_field f b) (all_ones f) (λ e. omega arith))

    not_all : exponent_field f b ≡ 0 → exponent_field f b < all_ones f
    not_all e = omega (arith, (table f).highest_field)

-- so is what the kit reads from a pattern
pub read_finite : (f : Format) (b : ℕ) → b < 2 ^ width f
    → finite (of_bits f b) ≡ not (eqb (exponent_field f b) (all_ones f))
read_finite f b h = finite_by_exponent b (decoding f b h)

-- and a value that the format holds, by the pattern that the kit writes
pub written_finite : (f : Format) (x : Float) → T (fits f x)
    → finite x ≡ not (eqb (exponent_field f (to_bits f x)) (all_ones f))
written_finite f x h = finite_by_exponent (to_bits f x) (encoding f x h)

-- ---- the size, by the exponent's field

value_size : {f : Format} {s : Bool} {n : ℕ} {x : Float} → Value f s n x → magnitude f x * 2 ≡ n
value_size {f} {n} {x} v =
    eq_of_mul-eq-mul_right (2 ^ low f) (pow_pos (low f)) (magnitude f x * 2) n
    (mul_assoc (magnitude f x) 2 (2 ^ low f)
    ∙ ap (λ (c : ℕ). magnitude f x * c) (mul_comm 2 (2 ^ low f) ∙ sym (two_units f))
    ∙ v.size)

zero_size : (f : Format) (s : Bool) → magnitude f (zero_of s) ≡ 0
zero_size f s = magnitude_zero f s _

-- a field of at most k says that the size is at most 2 ^ (k + t) units
pub exponent_size : {f : Format} (b : ℕ) {x : Float} → Encodes f b x → (k : ℕ) → exponent_field f b ≤ k → k < all_ones f
    → magnitude f x ≤ 2 ^ (k + trailing_width f)
exponent_size {f} b {x} v k h l =
    by_row f b
    (λ e t. over_all e)
    (λ e t. over_all e)
    (λ p q.
    let powers : 2 ^ exponent_field f b * (2 ^ trailing_width f + trailing_field f b) ≤ 2 ^ k *
    (2 ^ trailing_width f * 2) =
    le_trans (mul-le-mul_right (2 ^ trailing_width f + trailing_field f b) (pow_mono h))
    (mul-le-mul_left (2 ^ k) (omega (arith, trailing_in f b))) in
    halve (le_trans (le_of_eq (value_size (v.normal p q))) powers))
    (λ e t. small (omega (arith, value_size (v.subnormal e t), trailing_in f b)))
    (λ e t. small (omega (arith, ap (magnitude f) (v.zero e t) ∙ zero_size f (sign_set f b))))
  where
    over_all : exponent_field f b ≡ all_ones f → magnitude f x ≤ 2 ^ (k + trailing_width f)
    over_all e = absurd (omega (arith, h, l, e))

    halve : magnitude f x * 2 ≤ 2 ^ k * (2 ^ trailing_width f * 2) → magnitude f x ≤ 2 ^ (k + trailing_width f)
    halve m = omega (arith, m, pow-add 2 k (trailing_width f), sym (mul_assoc (2 ^ k) (2 ^ trailing_width f) 2))

    small : magnitude f x ≤ 2 ^ trailing_width f → magnitude f x ≤ 2 ^ (k + trailing_width f)
    small m = le_trans m (pow_mono (omega arith))

-- The fields of a bit pattern (specs/Encoding.antt): Table 3.5 of IEEE 754-2019 agrees with the kit's parameters, each
-- field lies within its width, a pattern is its three fields put together, and falls under one of the rows of 3.4. In
-- either format. Assumes nothing.
use mathlib.Core.Path.{◌≡◌, refl, sym, ap, ◌∙◌, subst}
use mathlib.Core.Logic.{inl, inr}
use Prim.Native.Nat.{ℕ, suc, ◌+◌, ◌-◌, ◌*◌, ◌/◌, ◌%◌, ◌^◌, ◌≤◌, ◌<◌}
use native.Mathlib.Nat.{mod-lt, one-mul, le_trans, le_of_eq, le-div_iff_mul-le, eq-zero-or-pos, eq-or-lt_of_le}
use native.Mathlib.Omega.{arith}
use lib.Dec.{leb, eqb, leb→le, le→leb, eqb→eq}
use lib.Pow.{pow_pos, le_ones, split, shr_lt, mod-pow-add, field}
use lib.Ieee.{Format, binary32, binary64, prec, emax, low, hid, ones, top}
use lib.Ieee.Fits.{eq→eqb}
use Rattle.binary32.specs.Encoding.{width, exponent_width, trailing_width, bias}
use Rattle.binary32.specs.Encoding.{sign_field, exponent_field, trailing_field, sign_set, all_ones}
use Rattle.binary32.proofs.Order.{same_test}

-- ---- Table 3.5

-- the columns of the table agree with each other, and with the kit's precision and largest exponent
pub record Table (f : Format) : Type 0 where
  pub whole_width : width f ≡ 1 + (exponent_width f + trailing_width f)
  pub precision : prec f ≡ suc (trailing_width f)
  pub largest_exponent : emax f ≡ bias f
  pub bias_of_width : bias f ≡ 2 ^ (exponent_width f - 1) - 1
  -- one unit, 2 ^ -low, is 2 ^ (emin - (p - 1))
  pub one_unit : suc (low f) ≡ bias f + trailing_width f
  -- the kit's weights of the exponent's field and of the sign, and its field of an infinity or a NaN
  pub exponent_weight : hid f ≡ 2 ^ trailing_width f
  pub sign_weight : top f ≡ 2 ^ (exponent_width f + trailing_width f)
  pub highest_field : ones f ≡ all_ones f
  -- patterns are under 2 ^ k, which the kit has as twice the sign's weight
  pub patterns : 2 * top f ≡ 2 ^ width f

-- Table 3.5 agrees with the kit
pub table : (f : Format) → Table f
unfolding width exponent_width trailing_width bias all_ones
table binary32 = record {
  whole_width = refl;
  precision = refl;
  largest_exponent = refl;
  bias_of_width = refl;
  one_unit = refl;
  exponent_weight = refl;
  sign_weight = refl;
  highest_field = refl;
  patterns = refl;
}
table binary64 = record {
  whole_width = refl;
  precision = refl;
  largest_exponent = refl;
  bias_of_width = refl;
  one_unit = refl;
  exponent_weight = refl;
  sign_weight = refl;
  highest_field = refl;
  patterns = refl;
}

-- ---- the fields

-- T is under 2 ^ t
pub trailing_in : (f : Format) (b : ℕ) → trailing_field f b < 2 ^ trailing_width f
unfolding trailing_field
trailing_in f b = mod-lt b (pow_pos (trailing_width f))

-- E is under 2 ^ w
pub exponent_in : (f : Format) (b : ℕ) → exponent_field f b < 2 ^ exponent_width f
unfolding exponent_field
exponent_in f b = mod-lt (b / 2 ^ trailing_width f) (pow_pos (exponent_width f))

-- S is one bit
pub sign_in : (f : Format) (b : ℕ) → b < 2 ^ width f → sign_field f b < 2
unfolding sign_field
sign_in f b h =
    shr_lt 1 (exponent_width f + trailing_width f) (subst (λ (k : ℕ). b < 2 ^ k) (table f).whole_width h)

-- a pattern is S, E and T, put together
pub put_together : (f : Format) (b : ℕ)
    → b ≡ sign_field f b * 2 ^ (exponent_width f + trailing_width f)
    + (exponent_field f b * 2 ^ trailing_width f + trailing_field f b)
unfolding sign_field exponent_field trailing_field
put_together f b =
    let w = exponent_width f in
    let t = trailing_width f in
    sym (split b (w + t)) ∙ ap (λ (n : ℕ). b / 2 ^ (w + t) * 2 ^ (w + t) + n) (mod-pow-add b w t)

-- what holds under each of the rows of 3.4 holds of every pattern
pub by_row : {P : Type 0} (f : Format) (b : ℕ)
    → (exponent_field f b ≡ all_ones f → 0 < trailing_field f b → P)
    → (exponent_field f b ≡ all_ones f → trailing_field f b ≡ 0 → P)
    → (0 < exponent_field f b → exponent_field f b < all_ones f → P)
    → (exponent_field f b ≡ 0 → 0 < trailing_field f b → P)
    → (exponent_field f b ≡ 0 → trailing_field f b ≡ 0 → P)
    → P
unfolding all_ones
by_row f b nan infinite normal subnormal zero = elim (eq-zero-or-pos (exponent_field f b)) [
  | inl e ↦ elim (eq-zero-or-pos (trailing_field f b)) [ inl t ↦ zero e t | inr t ↦ subnormal e t ]
  | inr p ↦ elim (eq-or-lt_of_le (le_ones (exponent_width f) (exponent_in f b))) [
    | inl e ↦ elim (eq-zero-or-pos (trailing_field f b)) [ inl t ↦ infinite e t | inr t ↦ nan e t ]
    | inr l ↦ normal p l
  ]
]

-- ---- the fields as the kit reads them

-- the kit's exponent's field is E
pub kit_exponent : (f : Format) (b : ℕ) → b % top f / hid f ≡ exponent_field f b
unfolding exponent_field
kit_exponent f b =
    ap (λ (n : ℕ). b % n / hid f) (table f).sign_weight
    ∙ ap (λ (n : ℕ). b % 2 ^ (exponent_width f + trailing_width f) / n) (table f).exponent_weight
    ∙ field b (exponent_width f) (trailing_width f)

-- the kit's digits are T
pub kit_trailing : (f : Format) (b : ℕ) → b % hid f ≡ trailing_field f b
unfolding trailing_field
kit_trailing f b = ap (λ (n : ℕ). b % n) (table f).exponent_weight

-- the kit's test for the sign's bit is S
pub kit_sign : (f : Format) (b : ℕ) → b < 2 ^ width f → leb (top f) b ≡ sign_set f b
unfolding sign_set sign_field
kit_sign f b h =
    let k = exponent_width f + trailing_width f in
    let c = 2 ^ k in
    let one_bit : b / c < 2 = sign_in f b h in
    ap (λ (n : ℕ). leb n b) (table f).sign_weight
    ∙ same_test (leb c b) (eqb (b / c) 1)
    (λ t.
    let some : 1 ≤ b / c = (le-div_iff_mul-le (pow_pos k)).1 (le_trans (le_of_eq (one-mul c)) (leb→le c b t)) in
    let one : b / c ≡ 1 = omega arith in
    eq→eqb one)
    (λ t.
    let some : 1 * c ≤ b = (le-div_iff_mul-le (pow_pos k)).0 (le_of_eq (sym (eqb→eq (b / c) 1 t))) in
    le→leb c b (le_trans (le_of_eq (sym (one-mul c))) some))

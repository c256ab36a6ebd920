-- The four operations on finite numbers, each as the one rounding of an exact fraction of whole numbers (IEEE 754-2019,
-- 5.4.1 with 4.3): a sum and a difference of the operands' units, a product over 2 ^ low, a quotient multiplied by
-- 2 ^ low. They hold for the kit's `add`, `sub`, `mul` and `div` in either format, for every finite operand but a zero
-- divisor. Assumes nothing.
use mathlib.Core.Path.{◌≡◌, refl, sym, ap, ap₂, ◌∙◌, subst}
use Prim.Native.Nat.{ℕ, zero, suc, ◌+◌, ◌-◌, ◌*◌, ◌^◌, ◌≤◌, ◌<◌}
use native.Mathlib.Nat.{lt_irrefl, zero-lt-suc, add-mul, mul_comm, mul_assoc, mul_left_comm, one-mul, zero-mul, mul-pos}
use native.Mathlib.Omega.{arith}
use mathlib.Core.Bool.{Bool, true, false, cond, ◌&&◌, not-not}
use borrow.Author.Tests.{ltb-true, ltb-false, ne_eqb}
use lib.Dec.{ltb}
use lib.Pow.{pow_pos}
use lib.IntN.{ℤ}
use lib.Ieee.{Float, nan, inf, fin, Format, low, up, down, is_nan, round, sum, neg, add, sub, mul, div, unlike}
use lib.Ieee.Fits.{up_pos, down_pos, neg-fits}
use lib.Ieee.Scale.{round_same}
use Rattle.binary32.specs.Whole.{negative, magnitude, over, under}
use Rattle.binary32.proofs.Magnitude.{Number, Finite, by_finite, by_finite₂}
use Rattle.binary32.proofs.Magnitude.{magnitude_exact, magnitude_scaled, magnitude_zero}
use Rattle.binary32.proofs.Order.{alike}
use Rattle.binary32.proofs.Rounded.{Rounded, round_positive, round_minus, by_difference, times_difference}

-- ---- sums

-- a / c and b / c are x / l and y / l: their sums round alike
module _ (f : Format) (a b c x y l : ℕ) (C : 0 < c) (L : 0 < l) (p : a * l ≡ x * c) (q : b * l ≡ y * c) where
  together : (r : Bool) → round f r (a + b) c ≡ round f r (x + y) l
  together r = round_same f r (a + b) c (x + y) l C L (add-mul a b l ∙ ap₂ ◌+◌ p q ∙ sym (add-mul x y c))

  apart : (r : Bool) → round f r (a - b) c ≡ round f r (x - y) l
  apart r = round_same f r (a - b) c (x - y) l C L (times_difference a b l ∙ ap₂ ◌-◌ p q ∙ sym (times_difference x y c))

sum_same : (f : Format) (s t : Bool) (a b c x y l : ℕ) → 0 < c → 0 < l → a * l ≡ x * c → b * l ≡ y * c
    → sum f s a t b c ≡ sum f s x t y l
unfolding sum
sum_same f s t a b c x y l C L p q =
    let k = alike a b x y c l C L p q in
    let e₁ = together f a b c x y l C L p q s in
    let e₂ = apart f b a c y x l C L q p t in
    let e₃ = apart f a b c x y l C L p q (s && ltb b a) in
    cc (e₁, e₂, e₃, k.less, k.more)

-- a sum of two sizes with signs
sum_rounded : (f : Format) (s : Bool) (x : ℕ) (t : Bool) (y : ℕ)
    → Rounded f (sum f s x t y (1 * 2 ^ low f)) (cond s 0 x + cond t 0 y) (cond s x 0 + cond t y 0) 1
unfolding sum
sum_rounded f false x false y = by_difference (round_positive f (x + y) 1 (pow_pos 0)) (x + y) 0 refl
sum_rounded f true x true y = by_difference (round_minus f (x + y) 1 (pow_pos 0)) 0 (x + y) refl
sum_rounded f false x true y = go (ltb x y) refl
  where
    go : (b : Bool) → ltb x y ≡ b → Rounded f
        (cond b (round f true (y - x) (1 * 2 ^ low f)) (round f false (x - y) (1 * 2 ^ low f))) (x + 0) (0 + y) 1
    go true e =
        let h : x < y = ltb-true x y e in
        by_difference (round_minus f (y - x) 1 (pow_pos 0)) (x + 0) (0 + y) (omega arith)
    go false e =
        let h : y ≤ x = ltb-false x y e in
        by_difference (round_positive f (x - y) 1 (pow_pos 0)) (x + 0) (0 + y) (omega arith)
sum_rounded f true x false y = go (ltb x y) (ltb y x) refl refl
  where
    go : (b d : Bool) → ltb x y ≡ b → ltb y x ≡ d → Rounded f
        (cond b (round f false (y - x) (1 * 2 ^ low f)) (round f d (x - y) (1 * 2 ^ low f))) (0 + y) (x + 0) 1
    go true d e g =
        let h : x < y = ltb-true x y e in
        by_difference (round_positive f (y - x) 1 (pow_pos 0)) (0 + y) (x + 0) (omega arith)
    go false true e g =
        let h : y < x = ltb-true y x g in
        by_difference (round_minus f (x - y) 1 (pow_pos 0)) (0 + y) (x + 0) (omega arith)
    go false false e g =
        let h : y ≤ x = ltb-false x y e in
        let k : x ≤ y = ltb-false y x g in
        by_difference (round_positive f (x - y) 1 (pow_pos 0)) (0 + y) (x + 0) (omega arith)

pub add_rounded : {f : Format} {x y : Float} → Finite f x → Finite f y
    → Rounded f (add f x y) (over f x + over f y) (under f x + under f y) 1
unfolding add over under negative
add_rounded {f} =
    by_finite₂ (λ x y. Rounded f (add f x y) (over f x + over f y) (under f x + under f y) 1)
    (λ s m e t n d p q.
    let X = magnitude f (fin s m e) in
    let Y = magnitude f (fin t n d) in
    subst (λ (z : Float). Rounded f z (cond s 0 X + cond t 0 Y) (cond s X 0 + cond t Y 0) 1)
    (sym (sum_same f s t (m * up e * down d) (n * up d * down e) (down e * down d) X Y (1 * 2 ^ low f)
    (mul-pos (down_pos e) (down_pos d)) (mul-pos (pow_pos 0) (pow_pos (low f)))
    (rw one-mul (magnitude_scaled f s m e p (down d)))
    (rw (one-mul, mul_comm (down e) (down d)) (magnitude_scaled f t n d q (down e)))))
    (sum_rounded f s X t Y))

-- a sum of a number and a finite one is a number: an infinity stays itself
pub add_number : {f : Format} {x y : Float} → Number f x → Finite f y → Number f (add f x y)
unfolding is_nan add
add_number {x = nan} hx hy = absurd hx.number
add_number {x = inf s} {y = nan} hx hy = absurd hy.finite
add_number {x = inf s} {y = inf t} hx hy = absurd hy.finite
add_number {x = inf s} {y = fin t n d} hx hy = hx
add_number {x = fin s m e} hx hy = (add_rounded (record { fits = hx.fits; finite = tt }) hy).number

-- ---- differences

pub neg_finite : {f : Format} {x : Float} → Finite f x → Finite f (neg x)
unfolding neg
neg_finite {f} = by_finite (λ x. Finite f (neg x)) (λ s m e p. record { fits = neg-fits f (fin s m e) p; finite = tt })

neg_neg : (x : Float) → neg (neg x) ≡ x
unfolding neg
neg_neg nan = refl
neg_neg (inf s) = ap inf (not-not s)
neg_neg (fin s m e) = ap (λ (t : Bool). fin t m e) (not-not s)

-- what a number counts over zero its negative counts under it, and the other way round
pub over_neg : (f : Format) (x : Float) → over f (neg x) ≡ under f x
unfolding neg over under negative magnitude
over_neg f nan = refl
over_neg f (inf true) = refl
over_neg f (inf false) = refl
over_neg f (fin true m e) = refl
over_neg f (fin false m e) = refl

pub under_neg : (f : Format) (x : Float) → under f (neg x) ≡ over f x
under_neg f x = sym (over_neg f (neg x)) ∙ ap (over f) (neg_neg x)

pub sub_rounded : {f : Format} {x y : Float} → Finite f x → Finite f y
    → Rounded f (sub f x y) (over f x + under f y) (under f x + over f y) 1
unfolding sub
sub_rounded {f} {x} {y} hx hy = simp (over_neg, under_neg) at (add_rounded hx (neg_finite hy))

-- ---- products

-- a product of two sizes with signs
times_rounded : (f : Format) (s : Bool) (x : ℕ) (t : Bool) (y : ℕ) (c : ℕ) → 0 < c
    → Rounded f (round f (unlike s t) (x * y) (c * 2 ^ low f)) (cond s 0 x * cond t 0 y + cond s x 0 * cond t y 0)
    (cond s 0 x * cond t y 0 + cond s x 0 * cond t 0 y) c
times_rounded f false x false y c C =
    by_difference (round_positive f (x * y) c C) (x * y + 0 * 0) (x * 0 + 0 * y) (omega arith)
times_rounded f true x true y c C =
    by_difference (round_positive f (x * y) c C) (0 * 0 + x * y) (0 * y + x * 0) (omega arith)
times_rounded f false x true y c C =
    by_difference (round_minus f (x * y) c C) (x * 0 + 0 * y) (x * y + 0 * 0) (omega arith)
times_rounded f true x false y c C =
    by_difference (round_minus f (x * y) c C) (0 * y + x * 0) (0 * 0 + x * y) (omega arith)

product_same : (a b d e x y l : ℕ) → x * d ≡ a * l → y * e ≡ b * l → a * b * (l * l) ≡ x * y * (d * e)
product_same a b d e x y l p q =
    simp (mul_assoc, mul_comm, mul_left_comm) (simp (mul_assoc, mul_comm, mul_left_comm) at (ap₂ ◌*◌ (sym p) (sym q)))

pub mul_rounded : {f : Format} {x y : Float} → Finite f x → Finite f y
    → Rounded f (mul f x y) (over f x * over f y + under f x * under f y)
    (over f x * under f y + under f x * over f y) (2 ^ low f)
unfolding mul over under negative
mul_rounded {f} =
    by_finite₂ (λ x y. Rounded f (mul f x y) (over f x * over f y + under f x * under f y)
    (over f x * under f y + under f x * over f y) (2 ^ low f))
    (λ s m e t n d p q.
    let X = magnitude f (fin s m e) in
    let Y = magnitude f (fin t n d) in
    let L = 2 ^ low f in
    subst (λ (z : Float). Rounded f z (cond s 0 X * cond t 0 Y + cond s X 0 * cond t Y 0)
    (cond s 0 X * cond t Y 0 + cond s X 0 * cond t 0 Y) L)
    (sym (round_same f (unlike s t) (m * up e * (n * up d)) (down e * down d) (X * Y) (L * L)
    (mul-pos (down_pos e) (down_pos d)) (mul-pos (pow_pos (low f)) (pow_pos (low f)))
    (product_same (m * up e) (n * up d) (down e) (down d) X Y L (magnitude_exact f s m e p)
    (magnitude_exact f t n d q))))
    (times_rounded f s X t Y L (pow_pos (low f))))

-- ---- quotients

-- a quotient of two sizes with signs
over_rounded : (f : Format) (s : Bool) (x : ℕ) (t : Bool) (y : ℕ) → 0 < y
    → Rounded f (round f (unlike s t) (x * 2 ^ low f) (y * 2 ^ low f)) (cond t (cond s x 0) (cond s 0 x) * 2 ^ low f)
    (cond t (cond s 0 x) (cond s x 0) * 2 ^ low f) y
over_rounded f false x false y h =
    by_difference (round_positive f (x * 2 ^ low f) y h) (x * 2 ^ low f) (0 * 2 ^ low f)
    (omega (arith, zero-mul (2 ^ low f)))
over_rounded f true x true y h =
    by_difference (round_positive f (x * 2 ^ low f) y h) (x * 2 ^ low f) (0 * 2 ^ low f)
    (omega (arith, zero-mul (2 ^ low f)))
over_rounded f false x true y h =
    by_difference (round_minus f (x * 2 ^ low f) y h) (0 * 2 ^ low f) (x * 2 ^ low f)
    (omega (arith, zero-mul (2 ^ low f)))
over_rounded f true x false y h =
    by_difference (round_minus f (x * 2 ^ low f) y h) (0 * 2 ^ low f) (x * 2 ^ low f)
    (omega (arith, zero-mul (2 ^ low f)))

quotient_same : (a b d e x y l : ℕ) → x * d ≡ a * l → y * e ≡ b * l → a * e * (y * l) ≡ x * l * (b * d)
quotient_same a b d e x y l p q =
    simp (mul_assoc, mul_comm, mul_left_comm) (simp (mul_assoc, mul_comm, mul_left_comm) at (ap₂ ◌*◌ (sym p) q))

-- the kit's quotient where the divisor is not zero
pub div_finite : (f : Format) (s : Bool) (m : ℕ) (e : ℤ) (t : Bool) (n : ℕ) (d : ℤ) → 0 < n
    → div f (fin s m e) (fin t n d) ≡ round f (unlike s t) (m * up e * down d) (n * up d * down e)
unfolding div
div_finite f s m e t n d h = rw (ne_eqb n 0 (λ z. omega arith))

-- a size is not zero, so the significand is not
pub significand : (f : Format) (t : Bool) (n : ℕ) (d : ℤ) → 0 < magnitude f (fin t n d) → 0 < n
significand f t zero d h = absurd (lt_irrefl 0 (subst (λ (k : ℕ). 0 < k) (magnitude_zero f t d) h))
significand f t (suc n) d h = zero-lt-suc n

pub div_rounded : {f : Format} {x y : Float} → Finite f x → Finite f y → 0 < magnitude f y
    → Rounded f (div f x y) (cond (negative y) (under f x) (over f x) * 2 ^ low f)
    (cond (negative y) (over f x) (under f x) * 2 ^ low f) (magnitude f y)
unfolding over under negative
div_rounded {f} =
    by_finite₂ (λ x y. 0 < magnitude f y
    → Rounded f (div f x y) (cond (negative y) (under f x) (over f x) * 2 ^ low f)
    (cond (negative y) (over f x) (under f x) * 2 ^ low f) (magnitude f y))
    (λ s m e t n d p q h.
    let X = magnitude f (fin s m e) in
    let Y = magnitude f (fin t n d) in
    let L = 2 ^ low f in
    let N = significand f t n d h in
    subst (λ (z : Float). Rounded f z (cond t (cond s X 0) (cond s 0 X) * L) (cond t (cond s 0 X) (cond s X 0) * L) Y)
    (sym (div_finite f s m e t n d N
    ∙ round_same f (unlike s t) (m * up e * down d) (n * up d * down e) (X * L) (Y * L)
    (mul-pos (mul-pos N (up_pos d)) (down_pos e)) (mul-pos h (pow_pos (low f)))
    (quotient_same (m * up e) (n * up d) (down e) (down d) X Y L (magnitude_exact f s m e p)
    (magnitude_exact f t n d q))))
    (over_rounded f s X t Y h))

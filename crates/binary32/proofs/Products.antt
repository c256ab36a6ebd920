-- A product by 1 is the value itself, by bits, and one by -1 has its size. A product by a factor in 0..1 is no larger
-- in size, and keeps the order. Assumes nothing.
use mathlib.Core.Path.{◌≡◌, refl, sym, ap, ◌∙◌, subst₂}
use Prim.Native.Nat.{ℕ, ◌+◌, ◌-◌, ◌*◌, ◌^◌, ◌≤◌}
use native.Mathlib.Nat.{mul-sub, mul_comm, mul-one, one-mul, zero-mul, mul-add}
use native.Mathlib.Nat.{add-mul, div-one, mul-le-mul_right, mul-le-mul_left}
use native.Mathlib.Omega.{arith}
use mathlib.Core.Bool.{Bool, true, false, not}
use lib.Dec.{T}
use lib.Pow.{pow_pos}
use lib.IntN.{pos}
use lib.Ieee.{Float, nan, inf, fin, Format, binary32, binary64, low, up, down, fits, neg, mul, unlike, of_bits}
use Rattle.binary32.specs.Arithmetic.{1f}
use Rattle.binary32.specs.Whole.{negative, magnitude, over, under}
use Rattle.binary32.proofs.Magnitude.{Finite, by_finite₂, finite_under, under_finite}
use Rattle.binary32.proofs.RoundedSize.{rounded_mono, round_negative, round_size}
use Rattle.binary32.proofs.Rounded.{Rounded, by_difference, by_fraction}
use Rattle.binary32.proofs.Rounded.{rounded_order, own_rounding, same_rounded}
use Rattle.binary32.proofs.Operations.{neg_finite, mul_rounded}

-- ---- one

-- 1 in either format
abbrev pub unit : Float
unit = fin false 1 (pos 0)

pub unit_finite : (f : Format) → Finite f unit
unfolding fits
unit_finite binary32 = record { fits = tt; finite = tt }
unit_finite binary64 = record { fits = tt; finite = tt }

pub one_is_unit : 1f ≡ unit
unfolding of_bits
one_is_unit = refl

pub over_unit : (f : Format) → over f unit ≡ 2 ^ low f
unfolding over negative magnitude
over_unit f = div-one (1 * 2 ^ low f) ∙ one-mul (2 ^ low f)

pub under_unit : (f : Format) → under f unit ≡ 0
unfolding under negative
under_unit f = refl

-- ---- the product by one

pub mul_negative : {f : Format} {x y : Float} → Finite f x → Finite f y
    → negative (mul f x y) ≡ unlike (negative x) (negative y)
unfolding mul negative
mul_negative {f} =
    by_finite₂ (λ x y. negative (mul f x y) ≡ unlike (negative x) (negative y))
    (λ s m e t n d p q. round_negative f (unlike s t) (m * up e * (n * up d)) (down e * down d))

unlike_unit : (t : Bool) → unlike (negative unit) t ≡ t
unfolding negative
unlike_unit true = refl
unlike_unit false = refl

one_times_finite : {f : Format} {x : Float} → Finite f x → mul f unit x ≡ x
one_times_finite {f} {x} h =
    let L = 2 ^ low f in
    let u = unit_finite f in
    let r : Rounded f (mul f unit x) (L * over f x + 0 * under f x) (L * under f x + 0 * over f x) L =
    simp (over_unit, under_unit) at (mul_rounded u h) in
    same_rounded (by_fraction r (over f x) (under f x) 1 (pow_pos (low f)) (pow_pos 0)
    (omega (arith, mul_comm L (over f x), mul_comm L (under f x))))
    (own_rounding h)
    (mul_negative u h ∙ unlike_unit (negative x))

pub one_times : (f : Format) (x : Float) → T (fits f x) → mul f unit x ≡ x
unfolding mul
one_times f nan h = refl
one_times f (inf true) h = refl
one_times f (inf false) h = refl
one_times f (fin s m e) h = one_times_finite (record { fits = h; finite = tt })

-- ---- a product is the same both ways round, so the product with one is

pub unlike_swapped : (s t : Bool) → unlike s t ≡ unlike t s
unlike_swapped true true = refl
unlike_swapped true false = refl
unlike_swapped false true = refl
unlike_swapped false false = refl

pub mul_swapped : (f : Format) (x y : Float) → mul f x y ≡ mul f y x
unfolding mul
mul_swapped f nan nan = refl
mul_swapped f nan (inf t) = refl
mul_swapped f nan (fin t n d) = refl
mul_swapped f (inf s) nan = refl
mul_swapped f (inf s) (inf t) = rw (unlike_swapped s t)
mul_swapped f (inf s) (fin t n d) = rw (unlike_swapped s t)
mul_swapped f (fin s m e) nan = refl
mul_swapped f (fin s m e) (inf t) = rw (unlike_swapped s t)
mul_swapped f (fin s m e) (fin t n d) =
    rw (unlike_swapped s t, mul_comm (m * up e) (n * up d), mul_comm (down e) (down d))

pub times_one : (f : Format) (x : Float) → T (fits f x) → mul f x unit ≡ x
times_one f x h = mul_swapped f x unit ∙ one_times f x h

-- a factor's sign does not change a product's size
turned_size : {f : Format} {x y : Float} → Finite f x → Finite f y
    → magnitude f (mul f (neg x) y) ≡ magnitude f (mul f x y)
unfolding mul neg
turned_size {f} =
    by_finite₂ (λ x y. magnitude f (mul f (neg x) y) ≡ magnitude f (mul f x y))
    (λ s m e t n d p q.
    let a = m * up e * (n * up d) in
    let c = down e * down d in
    round_size f (unlike (not s) t) a c ∙ sym (round_size f (unlike s t) a c))

-- a product by 1, and one by -1, is finite
pub one_product_finite : {f : Format} {x : Float} → Finite f x → Finite f (mul f unit x)
one_product_finite {f} {x} h = rw (one_times f x h.fits) h

pub minus_one_product_finite : {f : Format} {x : Float} → Finite f x → Finite f (mul f (neg unit) x)
minus_one_product_finite {f} {x} h =
    let u = unit_finite f in
    under_finite (mul_rounded (neg_finite u) h).number (rw (turned_size u h) (finite_under (one_product_finite h)))

-- a product by -1 has the size of the value
pub minus_one_size : {f : Format} {x : Float} → Finite f x → magnitude f (mul f (neg unit) x) ≡ magnitude f x
minus_one_size {f} {x} h = turned_size (unit_finite f) h ∙ ap (magnitude f) (one_times f x h.fits)

-- ---- a factor in 0..1

pub record Factor (f : Format) (s : Float) : Type 0 where
  pub number : Finite f s
  pub from : under f s ≡ 0
  pub to : over f s ≤ 2 ^ low f

-- the exact product, which is rounded
factor_rounded : {f : Format} {s x : Float} → Factor f s → Finite f x
    → Rounded f (mul f s x) (over f s * over f x) (over f s * under f x) (2 ^ low f)
factor_rounded {f} {s} {x} k h =
    by_difference (mul_rounded k.number h) (over f s * over f x) (over f s * under f x)
    (simp (k.from, zero-mul) (omega arith))

smaller_part : (s a b l : ℕ) → s ≤ l → (s * a - s * b) * 1 ≤ (a - b) * l
smaller_part s a b l h = rw (mul-one, ← mul-sub, mul_comm s (a - b)) (mul-le-mul_left (a - b) h)

larger_sum : (s l a b c d : ℕ) → a + b ≤ c + d → s * a * l + s * b * l ≤ s * c * l + s * d * l
larger_sum s l a b c d h =
    rw (← add-mul (s * a) (s * b) l, ← add-mul (s * c) (s * d) l, ← mul-add s a b, ← mul-add s c d)
    (mul-le-mul_right l (mul-le-mul_left s h))

-- no larger in size, and of the same sign
pub factor_over : {f : Format} {s x : Float} → Factor f s → Finite f x → over f (mul f s x) ≤ over f x
factor_over {f} {s} {x} k h =
    subst₂ (λ (a b : ℕ). a ≤ b) (sym (factor_rounded k h).above) (sym (own_rounding h).above)
    (rounded_mono f (over f s * over f x - over f s * under f x) (2 ^ low f) (over f x - under f x) 1
    (pow_pos (low f)) (pow_pos 0)
    (smaller_part (over f s) (over f x) (under f x) (2 ^ low f) k.to))

pub factor_under : {f : Format} {s x : Float} → Factor f s → Finite f x → under f (mul f s x) ≤ under f x
factor_under {f} {s} {x} k h =
    subst₂ (λ (a b : ℕ). a ≤ b) (sym (factor_rounded k h).below) (sym (own_rounding h).below)
    (rounded_mono f (over f s * under f x - over f s * over f x) (2 ^ low f) (under f x - over f x) 1
    (pow_pos (low f)) (pow_pos 0)
    (smaller_part (over f s) (under f x) (over f x) (2 ^ low f) k.to))

-- of two numbers the larger gets the product that is no smaller
pub factor_order : {f : Format} {s x y : Float} → Factor f s → Finite f x → Finite f y
    → over f x + under f y ≤ over f y + under f x
    → over f (mul f s x) + under f (mul f s y) ≤ over f (mul f s y) + under f (mul f s x)
factor_order {f} {s} {x} {y} k hx hy h =
    rounded_order (factor_rounded k hx) (factor_rounded k hy) (pow_pos (low f)) (pow_pos (low f))
    (larger_sum (over f s) (2 ^ low f) (over f x) (under f y) (over f y) (under f x) h)

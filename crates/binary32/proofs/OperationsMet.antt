-- The kit's `add`, `sub`, `mul` and `div` meet every row of specs/Operations.antt: what IEEE 754-2019 asks of the four
-- operations, of every two operands that the format holds. In either format. Assumes nothing.
use mathlib.Core.Path.{◌≡◌, refl, ◌∙◌}
use mathlib.Core.Bool.{Bool, true, false, not, ◌&&◌, ◌||◌, cond}
use Prim.Native.Nat.{ℕ, ◌+◌, ◌-◌, ◌*◌, ◌<◌}
use native.Mathlib.Nat.{lt_irrefl}
use native.Mathlib.Omega.{arith}
use borrow.Author.Tests.{le-ltb, ne_eqb}
use lib.Dec.{T, eqb}
use lib.IntN.{ℤ, pos}
use lib.Ieee.{Float, nan, inf, fin, Format, up, down, fits, is_nan, sum, add, sub, mul, div, unlike}
use lib.Ieee.Fits.{neg-fits}
use Rattle.binary32.specs.Whole.{negative, magnitude, over, under}
use Rattle.binary32.specs.Operations.{zero_of, Addition, Subtraction, Multiplication, Division}
use Rattle.binary32.proofs.Magnitude.{is_finite, Finite, by_finite, by_finite₂}
use Rattle.binary32.proofs.Order.{Alike, sizes_alike}
use Rattle.binary32.proofs.RoundedSize.{round_negative}
use Rattle.binary32.proofs.Integers.{Difference, whole_difference, sum_of}
use Rattle.binary32.proofs.Operations.{div_finite, significand}
use Rattle.binary32.proofs.Products.{mul_negative, unlike_swapped, mul_swapped}
use Rattle.binary32.proofs.Exact.{add_delivered, mul_delivered, div_delivered}

-- ---- signs

-- two sizes of different signs that cancel are one, so the kit finds neither the smaller
sum_negative : (f : Format) (s t : Bool) (c : ℕ) {a b x y : ℕ} → Alike a b x y
    → cond s 0 x + cond t 0 y ≡ cond s x 0 + cond t y 0
    → negative (sum f s a t b c) ≡ (s && t)
unfolding sum
sum_negative f false false c {a} {b} k e = round_negative f false (a + b) c
sum_negative f true true c {a} {b} k e = round_negative f true (a + b) c
sum_negative f false true c {a} {b} {x} {y} k e =
    rw (k.less ∙ le-ltb x y (omega arith)) (round_negative f false (a - b) c)
sum_negative f true false c {a} {b} {x} {y} k e =
    rw (k.less ∙ le-ltb x y (omega arith), k.more ∙ le-ltb y x (omega arith)) (round_negative f false (a - b) c)

add_negative : {f : Format} {x y : Float} → Finite f x → Finite f y → over f x + over f y ≡ under f x + under f y
    → negative (add f x y) ≡ (negative x && negative y)
unfolding add over under negative
add_negative {f} =
    by_finite₂ (λ x y. over f x + over f y ≡ under f x + under f y → negative (add f x y) ≡ (negative x && negative y))
    (λ s m e t n d p q. sum_negative f s t (down e * down d) (sizes_alike f s m e t n d p q))

div_negative : {f : Format} {x y : Float} → Finite f x → Finite f y → 0 < magnitude f y
    → negative (div f x y) ≡ unlike (negative x) (negative y)
unfolding negative
div_negative {f} =
    by_finite₂ (λ x y. 0 < magnitude f y → negative (div f x y) ≡ unlike (negative x) (negative y))
    (λ s m e t n d p q h.
    rw (div_finite f s m e t n d (significand f t n d h))
    (round_negative f (unlike s t) (m * up e * down d) (n * up d * down e)))

-- an integer that is 0 has a pair of equals
balanced : {z : ℤ} {p n : ℕ} → Difference z p n → z ≡ pos 0 → p ≡ n
balanced {p} {n} h e = let d : Difference (pos 0) p n = rw e at h in omega arith

-- ---- infinities and NaN

-- the kit tells a zero by its significand
not_zero : (f : Format) (s : Bool) (m : ℕ) (e : ℤ) → 0 < magnitude f (fin s m e) → eqb m 0 ≡ false
not_zero f s m e h = ne_eqb m 0 (λ z. omega (arith, significand f s m e h))

infinite_times : (f : Format) (s : Bool) (y : Float) → 0 < magnitude f y → mul f (inf s) y ≡ inf (unlike s (negative y))
unfolding mul negative magnitude
infinite_times f s nan h = absurd (lt_irrefl 0 h)
infinite_times f s (inf t) h = refl
infinite_times f s (fin t n d) h = rw (not_zero f t n d h)

-- an operation that gives a NaN wherever one stands
not_a_number : (op : Float → Float → Float) → ((y : Float) → op nan y ≡ nan) → ((s : Bool) → op (inf s) nan ≡ nan)
    → ((s : Bool) (m : ℕ) (e : ℤ) → op (fin s m e) nan ≡ nan) → (x y : Float) → T (is_nan x || is_nan y) → op x y ≡ nan
unfolding is_nan
not_a_number op first after_inf after_fin nan y h = first y
not_a_number op first after_inf after_fin (inf s) nan h = after_inf s
not_a_number op first after_inf after_fin (inf s) (inf t) h = absurd h
not_a_number op first after_inf after_fin (inf s) (fin t n d) h = absurd h
not_a_number op first after_inf after_fin (fin s m e) nan h = after_fin s m e
not_a_number op first after_inf after_fin (fin s m e) (inf t) h = absurd h
not_a_number op first after_inf after_fin (fin s m e) (fin t n d) h = absurd h

-- ---- the kit's operations meet the rows

module _ {f : Format} {x y : Float} (hx : T (fits f x)) (hy : T (fits f y)) where
  pub addition : Addition f x y (add f x y)
  unfolding add
  addition = record {
    rounded = λ p q. add_delivered (is_finite hx p) (is_finite hy q);
    zero =
        λ p q e. add_negative (is_finite hx p) (is_finite hy q)
        (balanced (sum_of (whole_difference f x) (whole_difference f y)) e);
    infinite_first = λ s e q. rw e (by_finite (λ y. add f (inf s) y ≡ inf s) (λ t n d h. refl) (is_finite hy q));
    infinite_second = λ s p e. rw e (by_finite (λ x. add f x (inf s) ≡ inf s) (λ t m d h. refl) (is_finite hx p));
    infinite_both = λ s d e. rw (d, e) (elim s as (λ s. add f (inf s) (inf s) ≡ inf s) [ true ↦ refl | false ↦ refl ]);
    invalid = λ s d e. rw (d, e) (elim s as (λ s. add f (inf s) (inf (not s)) ≡ nan) [ true ↦ refl | false ↦ refl ]);
    not_a_number = not_a_number (add f) (λ y. refl) (λ s. refl) (λ s m e. refl) x y;
  }

  pub multiplication : Multiplication f x y (mul f x y)
  unfolding mul
  multiplication = record {
    rounded = λ p q. mul_delivered (is_finite hx p) (is_finite hy q);
    sign = λ p q. mul_negative (is_finite hx p) (is_finite hy q);
    infinite_first = λ s e h. rw e (infinite_times f s y h);
    infinite_second = λ s h e. rw (e, mul_swapped f x (inf s), unlike_swapped (negative x) s) (infinite_times f s x h);
    invalid_first = λ s t d e. rw (d, e);
    invalid_second = λ s t d e. rw (d, e);
    not_a_number = not_a_number (mul f) (λ y. refl) (λ s. refl) (λ s m e. refl) x y;
  }

  pub division : Division f x y (div f x y)
  unfolding div negative
  division = record {
    rounded = λ p q. div_delivered (is_finite hx p) (is_finite hy q);
    sign = λ p q. div_negative (is_finite hx p) (is_finite hy q);
    infinite_first =
        λ s e q.
        rw e (by_finite (λ y. div f (inf s) y ≡ inf (unlike s (negative y))) (λ t n d h. refl) (is_finite hy q));
    infinite_second =
        λ s p e.
        rw e (by_finite (λ x. div f x (inf s) ≡ zero_of (unlike (negative x) s)) (λ t m d h. refl) (is_finite hx p));
    by_zero = λ s p h e.
        rw e (by_finite (λ x. 0 < magnitude f x → div f x (zero_of s) ≡ inf (unlike (negative x) s))
        (λ t m d q g. rw (not_zero f t m d g)) (is_finite hx p) h);
    invalid_zeros = λ s t d e. rw (d, e);
    invalid_infinities = λ s t d e. rw (d, e);
    not_a_number = not_a_number (div f) (λ y. refl) (λ s. refl) (λ s m e. refl) x y;
  }

pub subtraction : {f : Format} {x : Float} (y : Float) → T (fits f x) → T (fits f y) → Subtraction f x y (sub f x y)
unfolding sub
subtraction {f} y hx hy = addition hx (neg-fits f y hy)

-- The size of a number in units of its format's smallest value: it is exact for every number that the format holds, it
-- lies under the overflow bound where the number is finite, and a sign and a size belong to one number alone. Assumes
-- nothing.
use mathlib.Core.Path.{◌≡◌, refl, sym, ap, ◌∙◌, subst, subst₂, ap₂}
use Prim.Native.Nat.{ℕ, zero, suc, ◌+◌, ◌-◌, ◌*◌, ◌/◌, ◌%◌, ◌^◌, ◌≤◌, ◌<◌}
use native.Mathlib.Nat.{mul-one, one-mul, mul_assoc, mul_comm, mul_right_comm, mul_left_comm}
use native.Mathlib.Nat.{mul-div_cancel, zero-mul, lt_of_mul-lt-mul_right, mul-lt-mul_of_pos_right}
use native.Mathlib.Nat.{zero-div, lt_of_not-le, not-le_of_lt, lt_irrefl, le_of_suc-le-suc}
use native.Mathlib.Omega.{arith}
use mathlib.Core.Bool.{Bool, not, ◌&&◌, cond}
use lib.Dec.{T, leb→le, ltb→lt, eqb→eq, leb, ltb, eqb}
use lib.Pow.{pow-add, pow_pos, pow-lt}
use lib.IntN.{ℤ, pos, negsuc}
use lib.Ieee.{Float, nan, inf, fin, Format, prec, emax, low, up, down, size, hid, top, fits, is_nan, to_bits, of_bits}
use lib.Ieee.Bits.{of_bits-to_bits}
use lib.Ieee.Digits.{back}
use lib.Ieee.Exact.{HasValue}
use lib.Ieee.Fits.{and_l, and_r, down_pos}
use lib.Ieee.Scale.{overflow, finite}
use Rattle.binary32.specs.Whole.{negative, magnitude}

-- ---- what is asked of a number: the format holds it, and it is no NaN, or finite

pub record Number (f : Format) (x : Float) : Type 0 where
  pub fits : T (fits f x)
  pub number : T (not (is_nan x))

pub record Finite (f : Format) (x : Float) : Type 0 where
  pub fits : T (fits f x)
  pub finite : T (finite x)

pub is_finite : {f : Format} {x : Float} → T (fits f x) → T (finite x) → Finite f x
is_finite h t = record { fits = h; finite = t }

pub finite_number : {f : Format} {x : Float} → Finite f x → Number f x
unfolding is_nan
finite_number {f} {x} h = record { fits = h.fits; number = no_nan x h.finite }
  where
    no_nan : (x : Float) → T (finite x) → T (not (is_nan x))
    no_nan nan t = t
    no_nan (inf s) t = absurd t
    no_nan (fin s m e) t = tt

-- what holds of every `fin` that the format holds, holds of every finite number, and of every two
pub by_finite : {f : Format} {x : Float} (P : Float → Type 0)
    → ((s : Bool) (m : ℕ) (e : ℤ) → T (fits f (fin s m e)) → P (fin s m e)) → Finite f x → P x
by_finite {x = nan} P k h = absurd h.finite
by_finite {x = inf s} P k h = absurd h.finite
by_finite {x = fin s m e} P k h = k s m e h.fits

pub by_finite₂ : {f : Format} {x y : Float} (P : Float → Float → Type 0)
    → ((s : Bool) (m : ℕ) (e : ℤ) (t : Bool) (n : ℕ) (d : ℤ) → T (fits f (fin s m e)) → T (fits f (fin t n d))
    → P (fin s m e) (fin t n d))
    → Finite f x → Finite f y → P x y
by_finite₂ {y} P k hx hy =
    by_finite (λ x. P x y) (λ s m e p. by_finite (λ y. P (fin s m e) y) (λ t n d q. k s m e t n d p q) hy) hx

-- what holds of every two of an infinity and a `fin`, holds of every two numbers
pub by_number₂ : {f : Format} {x y : Float} (P : Float → Float → Type 0)
    → ((s t : Bool) → P (inf s) (inf t))
    → ((s t : Bool) (n : ℕ) (d : ℤ) → Finite f (fin t n d) → P (inf s) (fin t n d))
    → ((s : Bool) (m : ℕ) (e : ℤ) (t : Bool) → Finite f (fin s m e) → P (fin s m e) (inf t))
    → ((s : Bool) (m : ℕ) (e : ℤ) (t : Bool) (n : ℕ) (d : ℤ) → T (fits f (fin s m e)) → T (fits f (fin t n d))
    → P (fin s m e) (fin t n d))
    → Number f x → Number f y → P x y
unfolding is_nan
by_number₂ {x = nan} {y} P ii if fi ff hx hy = absurd hx.number
by_number₂ {x = inf s} {y = nan} P ii if fi ff hx hy = absurd hy.number
by_number₂ {x = inf s} {y = inf t} P ii if fi ff hx hy = ii s t
by_number₂ {x = inf s} {y = fin t n d} P ii if fi ff hx hy = if s t n d (record { fits = hy.fits; finite = tt })
by_number₂ {x = fin s m e} {y = nan} P ii if fi ff hx hy = absurd hy.number
by_number₂ {x = fin s m e} {y = inf t} P ii if fi ff hx hy = fi s m e t (record { fits = hx.fits; finite = tt })
by_number₂ {x = fin s m e} {y = fin t n d} P ii if fi ff hx hy = ff s m e t n d hx.fits hy.fits

-- ---- what it takes to be held: the parts of `fits`

pub record Held (f : Format) (m : ℕ) (e : ℤ) : Type 0 where
  pub digits : m < 2 ^ prec f
  pub fine : down e ≤ 2 ^ low f
  pub bounded : m * up e < 2 ^ suc (emax f) * down e

no_fraction : (k : ℕ) → 1 * 2 ^ suc k ≡ 1 → ⊥
no_fraction k e = let h : 2 ^ 0 < 2 ^ suc k = pow-lt {i = 0} (omega arith) in omega (arith, e, h, one-mul (2 ^ suc k))

zero_held : (f : Format) (e : ℤ) → up e * down e ≡ 1 → Held f 0 e
zero_held f (pos k) h =
    record {
      digits = pow_pos (prec f);
      fine = pow_pos (low f);
      bounded = simp (zero-mul, mul-one) (pow_pos (suc (emax f)));
    }
zero_held f (negsuc k) h = absurd (no_fraction k h)

pub held : (f : Format) (s : Bool) (m : ℕ) (e : ℤ) → T (fits f (fin s m e)) → Held f m e
unfolding fits
held f s zero e h = zero_held f e (eqb→eq (up e * down e) 1 h)
held f s (suc m) e h =
    let odd = eqb (suc m % 2) 1 in
    let few = ltb (suc m) (2 ^ prec f) in
    let fine = leb (down e) (2 ^ low f) in
    let bounded = ltb (suc m * up e) (2 ^ suc (emax f) * down e) in
    let front = and_l (odd && few && fine) bounded h in
    record {
      digits = ltb→lt (suc m) (2 ^ prec f) (and_r odd few (and_l (odd && few) fine front));
      fine = leb→le (down e) (2 ^ low f) (and_r (odd && few) fine front);
      bounded = ltb→lt (suc m * up e) (2 ^ suc (emax f) * down e) (and_r (odd && few && fine) bounded h);
    }

-- ---- the size is exact

-- Where the exponent is not under the format's least, the smallest value divides the number: it counts a whole number
-- of times, m * 2 ^ j.
pub record Multiple (f : Format) (m : ℕ) (e : ℤ) : Type 0 where
  pub shift : ℕ
  pub exact : m * up e * 2 ^ low f ≡ m * 2 ^ shift * down e

pub pow_split : (a b : ℕ) → b ≤ a → 2 ^ a ≡ 2 ^ (a - b) * 2 ^ b
pow_split a b h = ap (λ (n : ℕ). 2 ^ n) (sym (back a b h)) ∙ pow-add 2 (a - b) b

pub multiple : (f : Format) (m : ℕ) (e : ℤ) → down e ≤ 2 ^ low f → Multiple f m e
multiple f m (pos k) h = record { shift = k + low f; exact = simp (pow-add, mul_assoc, mul-one) }
multiple f m (negsuc k) h =
    let short : suc k ≤ low f =
    le_of_suc-le-suc (lt_of_not-le (λ (g : suc (low f) ≤ suc k). not-le_of_lt (pow-lt g) h)) in
    record {
      shift = low f - suc k;
      exact = ap (λ (x : ℕ). m * 1 * x) (pow_split (low f) (suc k) short) ∙ simp (mul-one, mul_assoc);
    }

-- a number of the value a / 2 ^ low has the size a
pub magnitude_of : (f : Format) (x : Float) (s : Bool) (a : ℕ) → HasValue x s a (2 ^ low f) → magnitude f x ≡ a
unfolding magnitude
magnitude_of f nan s a h = absurd h
magnitude_of f (inf t) s a h = absurd h
magnitude_of f (fin t m e) s a h = ap (λ (x : ℕ). x / down e) h.1 ∙ mul-div_cancel a (down_pos e)

-- the size of a number that the format holds is its significand, shifted
pub magnitude_shifted : (f : Format) (s : Bool) (m : ℕ) (e : ℤ) → (k : Multiple f m e)
    → magnitude f (fin s m e) ≡ m * 2 ^ k.shift
unfolding magnitude
magnitude_shifted f s m e k = ap (λ (x : ℕ). x / down e) k.exact ∙ mul-div_cancel (m * 2 ^ k.shift) (down_pos e)

pub magnitude_exact : (f : Format) (s : Bool) (m : ℕ) (e : ℤ) → T (fits f (fin s m e))
    → magnitude f (fin s m e) * down e ≡ m * up e * 2 ^ low f
magnitude_exact f s m e h =
    let k = multiple f m e (held f s m e h).fine in
    ap (λ (x : ℕ). x * down e) (magnitude_shifted f s m e k) ∙ sym k.exact

-- the same with a further factor on both sides, as the operations have it
pub magnitude_scaled : (f : Format) (s : Bool) (m : ℕ) (e : ℤ) → T (fits f (fin s m e)) → (k : ℕ)
    → m * up e * k * 2 ^ low f ≡ magnitude f (fin s m e) * (down e * k)
magnitude_scaled f s m e h k =
    mul_right_comm (m * up e) k (2 ^ low f) ∙ ap (λ (a : ℕ). a * k) (sym (magnitude_exact f s m e h))
    ∙ mul_assoc (magnitude f (fin s m e)) (down e) k

pub magnitude_zero : (f : Format) (s : Bool) (e : ℤ) → magnitude f (fin s 0 e) ≡ 0
unfolding magnitude
magnitude_zero f s e = simp (zero-mul, zero-div)

-- ---- a finite number lies under the overflow bound

pub magnitude_under : (f : Format) (x : Float) → T (fits f x) → T (finite x) → magnitude f x < overflow f
magnitude_under f nan h t = absurd t
magnitude_under f (inf s) h t = absurd t
magnitude_under f (fin s m e) h t =
    lt_of_mul-lt-mul_right (down e)
    (subst₂ (λ (a b : ℕ). a < b) (sym (magnitude_exact f s m e h))
    (simp (pow-add, mul_assoc, mul_comm, mul_left_comm))
    (mul-lt-mul_of_pos_right (held f s m e h).bounded (pow_pos (low f))))

pub finite_under : {f : Format} {x : Float} → Finite f x → magnitude f x < overflow f
finite_under {f} {x} h = magnitude_under f x h.fits h.finite

-- and what lies under it is finite
pub under_finite : {f : Format} {x : Float} → Number f x → magnitude f x < overflow f → Finite f x
unfolding is_nan magnitude
under_finite {x = nan} n h = absurd n.number
under_finite {f} {x = inf s} n h = absurd (lt_irrefl (overflow f) h)
under_finite {x = fin s m e} n h = record { fits = n.fits; finite = tt }

-- ---- a sign and a size belong to one number: the bit pattern is made of these two

unfoldable pub bits_of : (f : Format) (s : Bool) (n : ℕ) → ℕ
bits_of f s n = cond s (top f) 0 + (size n - prec f) * hid f + n / 2 ^ (size n - prec f)

pub bits_are : (f : Format) (x : Float) → T (finite x) → to_bits f x ≡ bits_of f (negative x) (magnitude f x)
unfolding bits_of to_bits negative magnitude
bits_are f nan t = absurd t
bits_are f (inf s) t = absurd t
bits_are f (fin s m e) t = refl

same_finite : (f : Format) (x y : Float) → T (fits f x) → T (fits f y) → T (finite x) → T (finite y)
    → negative x ≡ negative y → magnitude f x ≡ magnitude f y → x ≡ y
same_finite f x y hx hy tx ty s n =
    sym (of_bits-to_bits f x hx)
    ∙ ap (of_bits f) (bits_are f x tx ∙ ap₂ (bits_of f) s n ∙ sym (bits_are f y ty))
    ∙ of_bits-to_bits f y hy

an_infinity_is_larger : {f : Format} {x : Float} → Finite f x → overflow f ≡ magnitude f x → ⊥
an_infinity_is_larger {f} {x} h e = lt_irrefl (overflow f) (subst (λ (n : ℕ). n < overflow f) (sym e) (finite_under h))

pub same_number : {f : Format} {x y : Float} → Number f x → Number f y → negative x ≡ negative y
    → magnitude f x ≡ magnitude f y → x ≡ y
unfolding negative magnitude
same_number {f} =
    by_number₂ (λ x y. negative x ≡ negative y → magnitude f x ≡ magnitude f y → x ≡ y)
    (λ s t a n. ap inf a)
    (λ s t n d h a e. absurd (an_infinity_is_larger h e))
    (λ s m e t h a n. absurd (an_infinity_is_larger h (sym n)))
    (λ s m e t n d p q a k. same_finite f (fin s m e) (fin t n d) p q tt tt a k)

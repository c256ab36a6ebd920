-- `Rounded f z p n c` says that z is (p - n) / c units rounded, a zero's sign aside: one statement for both signs,
-- since one of the two truncated differences is 0. Four laws carry what rests on this: rounding keeps the order, a
-- value of the format is its own rounding, two roundings of one fraction are one number, and a whole number of units
-- that has few digits rounds to itself. Assumes nothing.
use mathlib.Core.Path.{◌≡◌, refl, sym, ap, ap₂, ◌∙◌, subst₂}
use Prim.Native.Nat.{ℕ, ◌+◌, ◌-◌, ◌*◌, ◌^◌, ◌≤◌, ◌<◌}
use native.Mathlib.Nat.{mul-sub, mul_comm, sub-zero, zero-sub}
use native.Mathlib.Omega.{arith}
use mathlib.Core.Bool.{Bool, true, false}
use borrow.Author.Tests.{eq-eqb}
use lib.Pow.{pow_pos}
use lib.Ieee.{Float, Format, low, round, eq}
use lib.Ieee.Scale.{overflow}
use Rattle.binary32.specs.Whole.{negative, magnitude, over, under}
use Rattle.binary32.proofs.Magnitude.{Number, Finite, finite_number, under_finite, same_number}
use Rattle.binary32.proofs.Order.{eq_whole}
use Rattle.binary32.proofs.RoundedSize.{rounded_to, Short, rounded_short, over_and_under, rounded_nothing}
use Rattle.binary32.proofs.RoundedSize.{rounded_same, rounded_mono, rounded_own, round_number, round_negative}
use Rattle.binary32.proofs.RoundedSize.{round_size, over_positive, under_positive, over_negative, under_negative}

pub record Rounded (f : Format) (z : Float) (p n c : ℕ) : Type 0 where
  pub number : Number f z
  pub above : over f z ≡ rounded_to f (p - n) c
  pub below : under f z ≡ rounded_to f (n - p) c

-- ---- what the kit's `round` gives is a rounding of the fraction that it was handed

pub round_positive : (f : Format) (a c : ℕ) → 0 < c → Rounded f (round f false a (c * 2 ^ low f)) a 0 c
unfolding rounded_to
round_positive f a c h =
    let z = round f false a (c * 2 ^ low f) in
    let s = round_negative f false a (c * 2 ^ low f) in
    record {
      number = round_number f false a (c * 2 ^ low f);
      above = over_positive f z s ∙ ap (λ (n : ℕ). rounded_to f n c) (sym (sub-zero a));
      below = under_positive f z s ∙ sym (ap (λ (n : ℕ). rounded_to f n c) (zero-sub a) ∙ rounded_nothing f c h);
    }

pub round_minus : (f : Format) (a c : ℕ) → 0 < c → Rounded f (round f true a (c * 2 ^ low f)) 0 a c
unfolding rounded_to
round_minus f a c h =
    let z = round f true a (c * 2 ^ low f) in
    let s = round_negative f true a (c * 2 ^ low f) in
    record {
      number = round_number f true a (c * 2 ^ low f);
      above = over_negative f z s ∙ sym (ap (λ (n : ℕ). rounded_to f n c) (zero-sub a) ∙ rounded_nothing f c h);
      below =
          under_negative f z s ∙ round_size f true a (c * 2 ^ low f)
          ∙ ap (λ (n : ℕ). rounded_to f n c) (sym (sub-zero a));
    }

pub times_difference : (p n c : ℕ) → (p - n) * c ≡ p * c - n * c
times_difference p n c = mul_comm (p - n) c ∙ mul-sub c p n ∙ ap₂ ◌-◌ (mul_comm c p) (mul_comm c n)

-- only the fraction counts: (p - n) / c and (q - m) / d are one, multiplied out
pub by_fraction : {f : Format} {z : Float} {p n c : ℕ} → Rounded f z p n c → (q m d : ℕ) → 0 < c → 0 < d
    → p * d + m * c ≡ q * c + n * d → Rounded f z q m d
by_fraction {f} {z} {p} {n} {c} h q m d C D e = record {
  number = h.number;
  above =
      h.above
      ∙ rounded_same f (p - n) c (q - m) d C D (rw (times_difference p n d, times_difference q m c) (omega arith));
  below =
      h.below
      ∙ rounded_same f (n - p) c (m - q) d C D (rw (times_difference n p d, times_difference m q c) (omega arith));
}

-- and over one denominator only the difference
pub by_difference : {f : Format} {z : Float} {p n c : ℕ} → Rounded f z p n c → (q m : ℕ) → q + n ≡ p + m
    → Rounded f z q m c
by_difference {f} {z} {p} {n} {c} h q m e =
    let up : p - n ≡ q - m = omega arith in
    let down : n - p ≡ m - q = omega arith in
    record {
      number = h.number;
      above = h.above ∙ ap (λ (a : ℕ). rounded_to f a c) up;
      below = h.below ∙ ap (λ (a : ℕ). rounded_to f a c) down;
    }

-- ---- rounding keeps the order

-- (p - n) / c ≤ (q - m) / d, multiplied out, gives z ≤ w
pub rounded_order : {f : Format} {z w : Float} {p n c q m d : ℕ} → Rounded f z p n c → Rounded f w q m d → 0 < c → 0 < d
    → p * d + m * c ≤ q * c + n * d → over f z + under f w ≤ over f w + under f z
rounded_order {f} {z} {w} {p} {n} {c} {q} {m} {d} hz hw C D h =
    let up : over f z ≤ over f w =
    subst₂ (λ (a b : ℕ). a ≤ b) (sym hz.above) (sym hw.above)
    (rounded_mono f (p - n) c (q - m) d C D (rw (times_difference p n d, times_difference q m c) (omega arith))) in
    let down : under f w ≤ under f z =
    subst₂ (λ (a b : ℕ). a ≤ b) (sym hw.below) (sym hz.below)
    (rounded_mono f (m - q) d (n - p) c D C (rw (times_difference m q c, times_difference n p d) (omega arith))) in
    omega arith

-- ---- a value of the format is its own rounding

pub own_rounding : {f : Format} {x : Float} → Finite f x → Rounded f x (over f x) (under f x) 1
own_rounding {f} {x} h = go (negative x) refl
  where
    go : (s : Bool) → negative x ≡ s → Rounded f x (over f x) (under f x) 1
    go false s = record {
      number = finite_number h;
      above = simp (over_positive f x s, under_positive f x s, sub-zero, rounded_own h);
      below = simp (over_positive f x s, under_positive f x s, zero-sub, rounded_nothing f 1 (pow_pos 0));
    }
    go true s = record {
      number = finite_number h;
      above = simp (over_negative f x s, under_negative f x s, zero-sub, rounded_nothing f 1 (pow_pos 0));
      below = simp (over_negative f x s, under_negative f x s, sub-zero, rounded_own h);
    }

-- ---- two roundings of one fraction are one number

pub one_rounding : {f : Format} {z w : Float} {p n c : ℕ} → Rounded f z p n c → Rounded f w p n c → eq z w ≡ true
one_rounding {f} {z} {w} hz hw =
    eq_whole hz.number hw.number
    ∙ eq-eqb (over f z + under f w) (over f w + under f z)
    (omega (arith, hz.above ∙ sym hw.above, hz.below ∙ sym hw.below))

-- and one value, by bits, where they have one sign
pub same_rounded : {f : Format} {z w : Float} {p n c : ℕ} → Rounded f z p n c → Rounded f w p n c
    → negative z ≡ negative w → z ≡ w
same_rounded {f} {z} {w} hz hw s =
    same_number hz.number hw.number s
    (sym (over_and_under f z) ∙ ap₂ ◌+◌ (hz.above ∙ sym hw.above) (hz.below ∙ sym hw.below)
    ∙ over_and_under f w)

-- ---- a whole number of units that has few digits rounds to itself

-- z is a units
pub record Exactly (f : Format) (z : Float) (a : ℕ) : Type 0 where
  pub finite : Finite f z
  pub above : over f z ≡ a
  pub below : under f z ≡ 0

pub exactly : {f : Format} {z : Float} {a : ℕ} → Rounded f z a 0 1 → Short f a → a < overflow f → Exactly f z a
exactly {f} {z} {a} h k less =
    let above : over f z ≡ a = h.above ∙ ap (λ (n : ℕ). rounded_to f n 1) (sub-zero a) ∙ rounded_short k less in
    let below : under f z ≡ 0 =
    h.below ∙ ap (λ (n : ℕ). rounded_to f n 1) (zero-sub a) ∙ rounded_nothing f 1 (pow_pos 0) in
    let size : magnitude f z < overflow f = omega (arith, over_and_under f z) in
    record { finite = under_finite h.number size; above = above; below = below }

-- From the integers of the statements to the pairs of natural numbers of the proofs, and back: `Difference z p n` says
-- that z is p - n. Sums, products and the order of integers are those of such pairs, and `rounding` of an integer is
-- the rounding of its pair. Assumes nothing.
use mathlib.Core.Path.{◌≡◌, refl, ap}
use Prim.Native.Nat.{ℕ, zero, suc, ◌+◌, ◌-◌, ◌*◌, ◌≤◌, ◌<◌}
use native.Mathlib.Nat.{add-mul, mul-add, mul-zero}
use native.Mathlib.Omega.{arith}
use mathlib.Core.Bool.{Bool, true, false, cond}
use borrow.Author.Tests.{ltb-true, ltb-false, lt-ltb, le-ltb}
use lib.Dec.{leb, ltb, leb→le, le→leb, ltb→lt, lt→ltb}
use lib.IntN.{ℤ, pos, negsuc, sub_ℕ, neg_ℤ, nat_abs, ◌+ℤ◌, ◌*ℤ◌}
use lib.Signed.{◌≤ℤ◌, lt_z, le_z}
use lib.Ieee.{Float, Format, eq}
use Rattle.binary32.specs.Whole.{over, under, whole_of}
use Rattle.binary32.specs.Rounding.{rounding}
use Rattle.binary32.proofs.Order.{same_test}
use Rattle.binary32.proofs.Rounded.{Rounded, round_positive, round_minus, by_difference, one_rounding}

abbrev Is : ℤ → ℕ → ℕ → Type 0
Is (pos a) p n = p ≡ a + n
Is (negsuc a) p n = n ≡ p + suc a

pub record Difference (z : ℤ) (p n : ℕ) : Type 0 where
  pub is : Is z p n

-- ---- the pairs of an integer

pub difference : (p n : ℕ) → Difference (sub_ℕ p n) p n
difference p n = go (ltb p n) refl
  where
    go : (b : Bool) → ltb p n ≡ b → Difference (cond b (negsuc (n - suc p)) (pos (p - n))) p n
    go true e = let h : p < n = ltb-true p n e in record { is = omega arith }
    go false e = let h : n ≤ p = ltb-false p n e in record { is = omega arith }

-- a number's whole number, and what it counts over and under zero
pub whole_difference : (f : Format) (x : Float) → Difference (whole_of f x) (over f x) (under f x)
unfolding whole_of
whole_difference f x = difference (over f x) (under f x)

-- a natural number
pub natural : (k : ℕ) → Difference (pos k) k 0
natural k = record { is = omega arith }

-- an integer's own pair
pub plus : ℤ → ℕ
plus (pos a) = a
plus (negsuc a) = 0

pub minus : ℤ → ℕ
minus (pos a) = 0
minus (negsuc a) = suc a

pub own_pair : (z : ℤ) → Difference z (plus z) (minus z)
unfolding plus minus
own_pair (pos a) = record { is = omega arith }
own_pair (negsuc a) = record { is = omega arith }

-- ---- order

pub order_of : {z w : ℤ} {p n q m : ℕ} → Difference z p n → Difference w q m → z ≤ℤ w → p + m ≤ q + n
order_of {z = pos a} {w = pos b} hz hw h = let l : a ≤ b = leb→le a b h.le in omega arith
order_of {z = pos a} {w = negsuc b} hz hw h = absurd h.le
order_of {z = negsuc a} {w = pos b} hz hw h = omega arith
order_of {z = negsuc a} {w = negsuc b} hz hw h = let l : b ≤ a = leb→le b a h.le in omega arith

pub order_to : {z w : ℤ} {p n q m : ℕ} → Difference z p n → Difference w q m → p + m ≤ q + n → z ≤ℤ w
order_to {z = pos a} {w = pos b} hz hw h = record { le = le→leb a b (omega arith) }
order_to {z = pos a} {w = negsuc b} hz hw h = let no : ⊥ = omega arith in absurd no
order_to {z = negsuc a} {w = pos b} hz hw h = record { le = tt }
order_to {z = negsuc a} {w = negsuc b} hz hw h = record { le = le→leb b a (omega arith) }

-- the same, as tests
pub lt_test : {z w : ℤ} {p n q m : ℕ} → Difference z p n → Difference w q m → ltb (p + m) (q + n) ≡ lt_z z w
lt_test {z = pos a} {w = pos b} {p} {n} {q} {m} hz hw =
    same_test (ltb (p + m) (q + n)) (ltb a b) (λ t. lt→ltb a b (omega (arith, ltb→lt (p + m) (q + n) t)))
    (λ t. lt→ltb (p + m) (q + n) (omega (arith, ltb→lt a b t)))
lt_test {z = pos a} {w = negsuc b} {p} {n} {q} {m} hz hw = le-ltb (p + m) (q + n) (omega arith)
lt_test {z = negsuc a} {w = pos b} {p} {n} {q} {m} hz hw = lt-ltb (p + m) (q + n) (omega arith)
lt_test {z = negsuc a} {w = negsuc b} {p} {n} {q} {m} hz hw =
    same_test (ltb (p + m) (q + n)) (ltb b a) (λ t. lt→ltb b a (omega (arith, ltb→lt (p + m) (q + n) t)))
    (λ t. lt→ltb (p + m) (q + n) (omega (arith, ltb→lt b a t)))

pub le_test : {z w : ℤ} {p n q m : ℕ} → Difference z p n → Difference w q m → leb (p + m) (q + n) ≡ le_z z w
le_test {z} {w} {p} {n} {q} {m} hz hw =
    same_test (leb (p + m) (q + n)) (le_z z w)
    (λ t. (order_to hz hw (leb→le (p + m) (q + n) t)).le)
    (λ t. le→leb (p + m) (q + n) (order_of hz hw (record { le = t })))

-- two integers with equal differences are one
pub same_integer : {z w : ℤ} {p n q m : ℕ} → Difference z p n → Difference w q m → p + m ≡ q + n → z ≡ w
same_integer {z = pos a} {w = pos b} hz hw e = let same : a ≡ b = omega arith in ap pos same
same_integer {z = pos a} {w = negsuc b} hz hw e = let no : ⊥ = omega arith in absurd no
same_integer {z = negsuc a} {w = pos b} hz hw e = let no : ⊥ = omega arith in absurd no
same_integer {z = negsuc a} {w = negsuc b} hz hw e = let same : a ≡ b = omega arith in ap negsuc same

-- and one integer has equal differences
pub same_difference : {z : ℤ} {p n q m : ℕ} → Difference z p n → Difference z q m → p + m ≡ q + n
same_difference {z = pos a} h k = omega arith
same_difference {z = negsuc a} h k = omega arith

-- ---- sums and products

-- only the difference counts
moved : {z : ℤ} {p n : ℕ} → Difference z p n → (q m : ℕ) → p + m ≡ q + n → Difference z q m
moved {z = pos a} h q m e = record { is = omega arith }
moved {z = negsuc a} h q m e = record { is = omega arith }

pub sum_of : {z w : ℤ} {p n q m : ℕ} → Difference z p n → Difference w q m → Difference (z +ℤ w) (p + q) (n + m)
sum_of {z = pos a} {w = pos b} hz hw = record { is = omega arith }
sum_of {z = pos a} {w = negsuc b} {p} {n} {q} {m} hz hw = moved (difference a (suc b)) (p + q) (n + m) (omega arith)
sum_of {z = negsuc a} {w = pos b} {p} {n} {q} {m} hz hw = moved (difference b (suc a)) (p + q) (n + m) (omega arith)
sum_of {z = negsuc a} {w = negsuc b} hz hw = record { is = omega arith }

pub negated_of : {z : ℤ} {p n : ℕ} → Difference z p n → Difference (neg_ℤ z) n p
negated_of {z = pos zero} h = record { is = omega arith }
negated_of {z = pos (suc a)} h = record { is = omega arith }
negated_of {z = negsuc a} h = record { is = omega arith }

-- minus a natural number, which may be 0
less_by : (k : ℕ) {p n : ℕ} → n ≡ p + k → Difference (neg_ℤ (pos k)) p n
less_by zero h = record { is = omega arith }
less_by (suc k) h = record { is = h }

pub product_of : {z w : ℤ} {p n q m : ℕ} → Difference z p n → Difference w q m
    → Difference (z *ℤ w) (p * q + n * m) (p * m + n * q)
product_of {z = pos a} {w = pos b} hz hw = record { is = simp (hz.is, hw.is, mul-add, add-mul) (omega arith) }
product_of {z = pos a} {w = negsuc b} hz hw =
    less_by (a * suc b) (simp (hz.is, hw.is, mul-add, add-mul) (omega arith))
product_of {z = negsuc a} {w = pos b} hz hw =
    less_by (suc a * b) (simp (hz.is, hw.is, mul-add, add-mul) (omega arith))
product_of {z = negsuc a} {w = negsuc b} hz hw = record { is = simp (hz.is, hw.is, mul-add, add-mul) (omega arith) }

-- a multiple
pub times_of : {z : ℤ} {p n : ℕ} → Difference z p n → (k : ℕ) → Difference (z *ℤ pos k) (p * k) (n * k)
times_of {p} {n} h k = moved (product_of h (natural k)) (p * k) (n * k) (omega (arith, mul-zero p, mul-zero n))

-- the size of an integer
pub size_of : {z : ℤ} {p n : ℕ} → Difference z p n → nat_abs z ≡ (p - n) + (n - p)
size_of {z = pos a} h = omega arith
size_of {z = negsuc a} h = omega arith

-- ---- rounding

pub rounding_rounded : {z : ℤ} {p n : ℕ} (f : Format) (c : ℕ) → Difference z p n → 0 < c
    → Rounded f (rounding f z c) p n c
unfolding rounding
rounding_rounded {z = pos a} {p} {n} f c h C = by_difference (round_positive f a c C) p n (omega arith)
rounding_rounded {z = negsuc a} {p} {n} f c h C = by_difference (round_minus f (suc a) c C) p n (omega arith)

pub is_rounding : {f : Format} {x : Float} {z : ℤ} {p n c : ℕ} → Rounded f x p n c → Difference z p n → 0 < c
    → eq x (rounding f z c) ≡ true
is_rounding {f} {c} hx h C = one_rounding hx (rounding_rounded f c h C)

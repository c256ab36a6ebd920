-- The comparisons of IEEE 754-2019 (5.6.1, 5.11) on two numbers that a format holds are those of whole numbers: x < y
-- says that over x - under x is less than over y - under y, which is written without a difference. An infinity counts
-- as the overflow bound. Assumes nothing.
use mathlib.Core.Path.{◌≡◌, refl, sym, ap, ap₂, ◌∙◌, subst₂}
use mathlib.Core.Logic.{inl, inr}
use Prim.Native.Nat.{ℕ, suc, ◌+◌, ◌*◌, ◌^◌, ◌≤◌, ◌<◌, zero-le}
use native.Mathlib.Nat.{eq-or-lt_of_le, zero-mul, add-mul, mul-pos, add-zero, zero-add, add_comm, mul_comm}
use native.Mathlib.Nat.{lt_of_mul-lt-mul_right, mul-lt-mul_of_pos_right, eq_of_mul-eq-mul_right}
use native.Mathlib.Decide.{dec_le}
use native.Mathlib.Omega.{arith}
use mathlib.Core.Bool.{Bool, true, false, not, cond, ◌&&◌, ◌||◌, beq}
use lib.Dec.{T, leb, ltb, eqb, ltb→lt, lt→ltb, eqb→eq}
use borrow.Author.Tests.{lt-ltb, le-ltb, le-leb, lt-leb, eq-eqb, ne_eqb}
use lib.Pow.{pow_pos}
use lib.IntN.{ℤ}
use lib.Ieee.{Float, nan, inf, fin, Format, low, emax, up, down, below, level, lt, eq, le, neg, fits}
use lib.Ieee.Bits.{is_true}
use lib.Ieee.Fits.{down_pos, eq→eqb, and_i, and_l, and_r}
use lib.Ieee.Scale.{overflow}
use Rattle.binary32.specs.Whole.{negative, magnitude, over, under}
use Rattle.binary32.proofs.Magnitude.{Number, by_number₂, magnitude_scaled, finite_under}

-- ---- two tests that pass together are one

pub same_test : (a b : Bool) → (T a → T b) → (T b → T a) → a ≡ b
same_test true b f g = sym (is_true b (f tt))
same_test false true f g = absurd (g tt)
same_test false false f g = refl

-- ---- a and b stand to each other as the sizes x and y do, of which they are the same multiple

module _ (a b x y c l : ℕ) (C : 0 < c) (L : 0 < l) (p : a * l ≡ x * c) (q : b * l ≡ y * c) where
  less : a < b → x < y
  less h = lt_of_mul-lt-mul_right c (subst₂ (λ (m n : ℕ). m < n) p q (mul-lt-mul_of_pos_right h L))

  less_back : x < y → a < b
  less_back h = lt_of_mul-lt-mul_right l (subst₂ (λ (m n : ℕ). m < n) (sym p) (sym q) (mul-lt-mul_of_pos_right h C))

  ltb_same : ltb a b ≡ ltb x y
  ltb_same =
      same_test (ltb a b) (ltb x y) (λ t. lt→ltb x y (less (ltb→lt a b t))) (λ t. lt→ltb a b (less_back (ltb→lt x y t)))

  eqb_same : eqb a b ≡ eqb x y
  eqb_same =
      same_test (eqb a b) (eqb x y)
      (λ t. eq→eqb (eq_of_mul-eq-mul_right c C x y (sym p ∙ ap (λ (m : ℕ). m * l) (eqb→eq a b t) ∙ q)))
      (λ t. eq→eqb (eq_of_mul-eq-mul_right l L a b (p ∙ ap (λ (m : ℕ). m * c) (eqb→eq x y t) ∙ sym q)))

pub record Alike (a b x y : ℕ) : Type 0 where
  pub less : ltb a b ≡ ltb x y
  pub more : ltb b a ≡ ltb y x
  pub some : ltb 0 (a + b) ≡ ltb 0 (x + y)
  pub equal : eqb a b ≡ eqb x y
  pub none : eqb a 0 ≡ eqb x 0

pub alike : (a b x y c l : ℕ) → 0 < c → 0 < l → a * l ≡ x * c → b * l ≡ y * c → Alike a b x y
alike a b x y c l C L p q =
    let zero_both : 0 * l ≡ 0 * c = zero-mul l ∙ sym (zero-mul c) in
    let sum_both : (a + b) * l ≡ (x + y) * c = add-mul a b l ∙ ap₂ ◌+◌ p q ∙ sym (add-mul x y c) in
    record {
      less = ltb_same a b x y c l C L p q;
      more = ltb_same b a y x c l C L q p;
      some = ltb_same 0 (a + b) 0 (x + y) c l C L zero_both sum_both;
      equal = eqb_same a b x y c l C L p q;
      none = eqb_same a 0 x 0 c l C L p zero_both;
    }

-- what the operations take of two finite numbers are such multiples of their sizes
pub sizes_alike : (f : Format) (s : Bool) (m : ℕ) (e : ℤ) (t : Bool) (n : ℕ) (d : ℤ) → T (fits f (fin s m e))
    → T (fits f (fin t n d))
    → Alike (m * up e * down d) (n * up d * down e) (magnitude f (fin s m e)) (magnitude f (fin t n d))
sizes_alike f s m e t n d hx hy =
    alike (m * up e * down d) (n * up d * down e) (magnitude f (fin s m e)) (magnitude f (fin t n d))
    (down e * down d) (2 ^ low f)
    (mul-pos (down_pos e) (down_pos d)) (pow_pos (low f))
    (magnitude_scaled f s m e hx (down d))
    (magnitude_scaled f t n d hy (down e) ∙ ap (λ (c : ℕ). magnitude f (fin t n d) * c) (mul_comm (down d) (down e)))

below_alike : (s : Bool) (t : Bool) {a b x y : ℕ} → Alike a b x y → below s a t b ≡ below s x t y
below_alike false false h = h.less
below_alike false true h = refl
below_alike true false h = h.some
below_alike true true h = h.more

level_alike : (s : Bool) (t : Bool) {a b x y : ℕ} → Alike a b x y → level s a t b ≡ level s x t y
level_alike s t h = ap₂ (λ (p q : Bool). p && (beq s t || q)) h.equal h.none

-- ---- a signed comparison of sizes, without signs

below_whole : (s : Bool) (x : ℕ) (t : Bool) (y : ℕ)
    → below s x t y ≡ ltb (cond s 0 x + cond t y 0) (cond t 0 y + cond s x 0)
below_whole false x false y = simp add-zero
below_whole false x true y = sym (le-ltb (x + y) 0 zero-le)
below_whole true x false y = ap (ltb 0) (add_comm x y)
below_whole true x true y = simp zero-add

alone : (b : Bool) → b && true ≡ b
alone true = refl
alone false = refl

both_nothing : (x y a b : ℕ) → (x ≡ y → x ≡ 0 → a ≡ b) → (a ≡ b → (x ≡ y) × (x ≡ 0)) → eqb x y && eqb x 0 ≡ eqb a b
both_nothing x y a b f g =
    same_test (eqb x y && eqb x 0) (eqb a b)
    (λ t. eq→eqb (f (eqb→eq x y (and_l (eqb x y) (eqb x 0) t)) (eqb→eq x 0 (and_r (eqb x y) (eqb x 0) t))))
    (λ t. and_i (eqb x y) (eqb x 0) (eq→eqb (g (eqb→eq a b t)).0) (eq→eqb (g (eqb→eq a b t)).1))

level_whole : (s : Bool) (x : ℕ) (t : Bool) (y : ℕ)
    → level s x t y ≡ eqb (cond s 0 x + cond t y 0) (cond t 0 y + cond s x 0)
level_whole false x false y = simp (alone, add-zero)
level_whole false x true y = both_nothing x y (x + y) 0 (λ p q. omega arith) (λ h. omega arith)
level_whole true x false y = both_nothing x y 0 (y + x) (λ p q. omega arith) (λ h. omega arith)
level_whole true x true y =
    simp (alone, zero-add)
    (same_test (eqb x y) (eqb y x) (λ t. eq→eqb (sym (eqb→eq x y t))) (λ t. eq→eqb (sym (eqb→eq y x t))))

-- ---- the comparisons of two numbers, by sign and size

-- the overflow bound is larger in size than any other number
bound_first : (s t : Bool) (o y : ℕ) → y < o → s ≡ below s o t y
bound_first false false o y h = sym (le-ltb o y (omega arith))
bound_first false true o y h = refl
bound_first true false o y h = sym (lt-ltb 0 (o + y) (omega arith))
bound_first true true o y h = sym (lt-ltb y o h)

bound_second : (s t : Bool) (x o : ℕ) → x < o → not t ≡ below s x t o
bound_second false false x o h = sym (lt-ltb x o h)
bound_second false true x o h = refl
bound_second true false x o h = sym (lt-ltb 0 (x + o) (omega arith))
bound_second true true x o h = sym (le-ltb o x (omega arith))

bound_both : (s t : Bool) (o : ℕ) → 0 < o → (s && not t) ≡ below s o t o
bound_both false false o h = sym (le-ltb o o (omega arith))
bound_both false true o h = refl
bound_both true false o h = sym (lt-ltb 0 (o + o) (omega arith))
bound_both true true o h = sym (le-ltb o o (omega arith))

lt_sizes : {f : Format} {x y : Float} → Number f x → Number f y
    → lt x y ≡ below (negative x) (magnitude f x) (negative y) (magnitude f y)
unfolding lt negative magnitude
lt_sizes {f} =
    by_number₂ (λ x y. lt x y ≡ below (negative x) (magnitude f x) (negative y) (magnitude f y))
    (λ s t. bound_both s t (overflow f) (pow_pos (low f + suc (emax f))))
    (λ s t n d h. bound_first s t (overflow f) (magnitude f (fin t n d)) (finite_under h))
    (λ s m e t h. bound_second s t (magnitude f (fin s m e)) (overflow f) (finite_under h))
    (λ s m e t n d p q. below_alike s t (sizes_alike f s m e t n d p q))

or_false : (b : Bool) → b || false ≡ b
or_false true = refl
or_false false = refl

apart_first : (s t : Bool) (o y : ℕ) → y < o → false ≡ level s o t y
apart_first s t o y h = simp (ne_eqb o y (λ e. omega arith))

apart_second : (s t : Bool) (x o : ℕ) → x < o → false ≡ level s x t o
apart_second s t x o h = simp (ne_eqb x o (λ e. omega arith))

bound_level : (s t : Bool) (o : ℕ) → 0 < o → beq s t ≡ level s o t o
bound_level s t o h = simp (eq-eqb o o refl, ne_eqb o 0 (λ e. omega arith)) (sym (or_false (beq s t)))

eq_sizes : {f : Format} {x y : Float} → Number f x → Number f y
    → eq x y ≡ level (negative x) (magnitude f x) (negative y) (magnitude f y)
unfolding eq negative magnitude
eq_sizes {f} =
    by_number₂ (λ x y. eq x y ≡ level (negative x) (magnitude f x) (negative y) (magnitude f y))
    (λ s t. bound_level s t (overflow f) (pow_pos (low f + suc (emax f))))
    (λ s t n d h. apart_first s t (overflow f) (magnitude f (fin t n d)) (finite_under h))
    (λ s m e t h. apart_second s t (magnitude f (fin s m e)) (overflow f) (finite_under h))
    (λ s m e t n d p q. level_alike s t (sizes_alike f s m e t n d p q))

-- ---- the comparisons as those of whole numbers

less_or_equal : (a b : ℕ) → ltb a b || eqb a b ≡ leb a b
less_or_equal a b = go (dec_le a b)
  where
    go : Dec (a ≤ b) → ltb a b || eqb a b ≡ leb a b
    go (yes h) = elim (eq-or-lt_of_le h) [
      | inl e ↦ simp (le-ltb a b (omega (arith, e)), eq-eqb a b e, le-leb a b h)
      | inr g ↦ simp (lt-ltb a b g, le-leb a b h)
    ]
    go (no h) = simp (le-ltb a b (omega arith), ne_eqb a b (λ e. omega arith), lt-leb a b (omega arith))

pub lt_whole : {f : Format} {x y : Float} → Number f x → Number f y
    → lt x y ≡ ltb (over f x + under f y) (over f y + under f x)
unfolding over under
lt_whole {f} {x} {y} hx hy = lt_sizes hx hy ∙ below_whole (negative x) (magnitude f x) (negative y) (magnitude f y)

pub eq_whole : {f : Format} {x y : Float} → Number f x → Number f y
    → eq x y ≡ eqb (over f x + under f y) (over f y + under f x)
unfolding over under
eq_whole {f} {x} {y} hx hy = eq_sizes hx hy ∙ level_whole (negative x) (magnitude f x) (negative y) (magnitude f y)

pub le_whole : {f : Format} {x y : Float} → Number f x → Number f y
    → le x y ≡ leb (over f x + under f y) (over f y + under f x)
unfolding le
le_whole {f} {x} {y} hx hy =
    ap₂ ◌||◌ (lt_whole hx hy) (eq_whole hx hy) ∙ less_or_equal (over f x + under f y) (over f y + under f x)

-- ---- minus turns a comparison round: x < -y exactly where y < -x

below_minus : (s : Bool) (a : ℕ) (t : Bool) (b : ℕ) → below s a (not t) b ≡ below t b (not s) a
below_minus false a false b = refl
below_minus false a true b = refl
below_minus true a false b = refl
below_minus true a true b = ap (ltb 0) (add_comm a b)

pub lt_minus : (x y : Float) → lt x (neg y) ≡ lt y (neg x)
unfolding lt neg
lt_minus nan nan = refl
lt_minus nan (inf t) = refl
lt_minus nan (fin t n d) = refl
lt_minus (inf s) nan = refl
lt_minus (inf true) (inf true) = refl
lt_minus (inf true) (inf false) = refl
lt_minus (inf false) (inf true) = refl
lt_minus (inf false) (inf false) = refl
lt_minus (inf true) (fin t n d) = refl
lt_minus (inf false) (fin t n d) = refl
lt_minus (fin s m e) nan = refl
lt_minus (fin s m e) (inf true) = refl
lt_minus (fin s m e) (inf false) = refl
lt_minus (fin s m e) (fin t n d) = below_minus s (m * up e * down d) t (n * up d * down e)

-- The size that is nearest to a / c units, whatever its exponent: the kit's rounding keeps prec digits, w or the next
-- number up, of a / c = w * 2 ^ k and a rest. No size of so few digits lies between w * 2 ^ k and (w + 1) * 2 ^ k, so
-- none is nearer than the nearer of these two; and where both are equally near, the one that is taken ends with an even
-- digit and the other with an odd one. In either format. Assumes nothing.
use mathlib.Core.Path.{◌≡◌, refl, sym, ap, ◌∙◌, subst, subst₂}
use mathlib.Core.Logic.{◌⊎◌, inl, inr, ⊎_elim}
use Prim.Native.Nat.{ℕ, zero, suc, ◌+◌, ◌-◌, ◌*◌, ◌/◌, ◌%◌, ◌^◌, ◌≤◌, ◌<◌}
use Prim.Native.Nat.{compare, Ordering}
use native.Mathlib.Nat.{add-zero, add-mul, mul_assoc, mul_comm, one-mul, suc-mul, lt_of_lt_of_le}
use native.Mathlib.Nat.{mul-pos, mul-le-mul_right, eq_of_mul-eq-mul_right, eq-or-lt_of_le}
use native.Mathlib.Nat.{le_trans, le_of_eq, div-div-eq-div-mul, div-add-mod', mod-lt}
use native.Mathlib.Decide.{dec_le}
use native.Mathlib.Omega.{arith}
use borrow.Author.Tests.{leb-true, leb-false, eqb-true, eqb-false}
use lib.Dec.{is_le, compare_is_eq}
use lib.Pow.{shr_lt, shr_mono, shl-shr, pow-add, pow_pos, pow_mono, pow-lt}
use lib.Ieee.{Format, prec, nearest}
use lib.Ieee.Digits.{size-lt, size_reaches}
use lib.Ieee.Fits.{two}
use lib.Ieee.Order.{drop, kept}
use Rattle.binary32.proofs.Magnitude.{pow_split}
use Rattle.binary32.proofs.RoundedSize.{Short}
use Rattle.binary32.proofs.LastDigit.{last_digit, digit_of}

-- how far a and b lie apart
abbrev pub gap : ℕ → ℕ → ℕ
gap a b = (a - b) + (b - a)

pub record NearestSize (f : Format) (a c n : ℕ) : Type 0 where
  pub short : Short f n
  pub nearest : (m : ℕ) → Short f m → gap a (n * c) ≤ gap a (m * c)
  -- of two that are equally near, n is the one that is even
  pub tie : (m : ℕ) → Short f m → gap a (m * c) ≡ gap a (n * c) → (m ≡ n → ⊥)
      → (last_digit f n ≡ 0) × (last_digit f m ≡ 1)

-- ---- no size lies between two neighbours

module _ (f : Format) (w k : ℕ) (full : 0 < k → 2 ^ (prec f - 1) ≤ w) where
  neighbours : {m : ℕ} → Short f m → (m ≤ w * 2 ^ k) ⊎ (suc w * 2 ^ k ≤ m)
  neighbours {m} s = go (dec_le k s.shift)
    where
      go : Dec (k ≤ s.shift) → (m ≤ w * 2 ^ k) ⊎ (suc w * 2 ^ k ≤ m)
      -- m is a multiple of 2 ^ k
      go (yes h) =
          let e = s.digits * 2 ^ (s.shift - k) in
          let is : m ≡ e * 2 ^ k =
          s.exact ∙ ap (λ (n : ℕ). s.digits * n) (pow_split s.shift k h)
          ∙ sym (mul_assoc s.digits (2 ^ (s.shift - k)) (2 ^ k)) in
          pick e is (dec_le e w)
        where
          pick : (e : ℕ) → m ≡ e * 2 ^ k → Dec (e ≤ w) → (m ≤ w * 2 ^ k) ⊎ (suc w * 2 ^ k ≤ m)
          pick e is (yes l) = inl (le_trans (le_of_eq is) (mul-le-mul_right (2 ^ k) l))
          pick e is (no l) = inr (le_trans (mul-le-mul_right (2 ^ k) (omega arith)) (le_of_eq (sym is)))
      -- or it has too few digits to reach w * 2 ^ k
      go (no h) =
          let j = s.shift in
          let short : s.digits * 2 ^ j ≤ 2 ^ prec f * 2 ^ j = mul-le-mul_right (2 ^ j) (omega (arith, s.few)) in
          let step : 2 ^ (prec f + j) ≤ 2 ^ (prec f - 1 + k) = pow_mono (omega (arith, two f)) in
          let reach : 2 ^ (prec f - 1) * 2 ^ k ≤ w * 2 ^ k = mul-le-mul_right (2 ^ k) (full (omega arith)) in
          inl (omega (arith, s.exact, pow-add 2 (prec f) j, pow-add 2 (prec f - 1) k))

-- ---- which of the two is taken

pub step : (c w k : ℕ) → suc w * 2 ^ k * c ≡ w * 2 ^ k * c + 2 ^ k * c
step c w k = ap (λ (n : ℕ). n * c) (suc-mul w (2 ^ k)) ∙ add-mul (w * 2 ^ k) (2 ^ k) c

-- both are sizes, also where the next number up is 2 ^ prec
pub short_of : (f : Format) (k q : ℕ) → q ≤ 2 ^ prec f → Short f (q * 2 ^ k)
short_of f k q h = elim (eq-or-lt_of_le h) [
  | inl e ↦ record {
    digits = 1;
    shift = prec f + k;
    few = pow-lt {i = 0} (omega (arith, two f));
    exact = ap (λ (n : ℕ). n * 2 ^ k) e ∙ sym (pow-add 2 (prec f) k) ∙ sym (one-mul (2 ^ (prec f + k)));
  }
  | inr l ↦ record { digits = q; shift = k; few = l; exact = refl }
]

-- a is L = w * 2 ^ k * c and a rest r, which is less than the step u of 2 ^ k: the two candidates are L and L + u
module _ (f : Format) (a c w k r : ℕ) (C : 0 < c) (full : 0 < k → 2 ^ (prec f - 1) ≤ w) (few : w < 2 ^ prec f)
    (parts : a ≡ w * 2 ^ k * c + r) (rest : r < 2 ^ k * c) where
  digit_lower : last_digit f (w * 2 ^ k) ≡ w % 2
  digit_lower = digit_of f w k (omega arith) full

  digit_upper : last_digit f (suc w * 2 ^ k) ≡ suc w % 2
  digit_upper = digit_of f (suc w) k (omega arith) (λ h. omega (arith, full h))

  -- every other size lies on one side or the other
  others : (m : ℕ) → Short f m → (m * c ≤ w * 2 ^ k * c) ⊎ (suc w * 2 ^ k * c ≤ m * c)
  others m s = ⊎_elim (λ h. inl (mul-le-mul_right c h)) (λ h. inr (mul-le-mul_right c h)) (neighbours f w k full s)

  same : (m n : ℕ) → m * c ≡ n * c → m ≡ n
  same m n e = eq_of_mul-eq-mul_right c C m n e

  lower : r * 2 ≤ 2 ^ k * c → (r * 2 ≡ 2 ^ k * c → w % 2 ≡ 0) → NearestSize f a c (w * 2 ^ k)
  lower h even = record {
    short = short_of f k w (omega arith);
    nearest = λ m s. ⊎_elim (λ l. omega (arith, step c w k)) (λ l. omega (arith, step c w k)) (others m s);
    tie = λ m s e ne.
        ⊎_elim
        (λ (l : m * c ≤ w * 2 ^ k * c). absurd (ne (same m (w * 2 ^ k) (omega arith))))
        (λ (l : suc w * 2 ^ k * c ≤ m * c).
        let half : r * 2 ≡ 2 ^ k * c = omega (arith, step c w k) in
        let is : m ≡ suc w * 2 ^ k = same m (suc w * 2 ^ k) (omega (arith, step c w k)) in
        (digit_lower ∙ even half, ap (last_digit f) is ∙ digit_upper ∙ omega (arith, even half)))
        (others m s);
  }

  upper : 2 ^ k * c ≤ r * 2 → (r * 2 ≡ 2 ^ k * c → w % 2 ≡ 1) → NearestSize f a c (suc w * 2 ^ k)
  upper h odd = record {
    short = short_of f k (suc w) (omega arith);
    nearest = λ m s. ⊎_elim (λ l. omega (arith, step c w k)) (λ l. omega (arith, step c w k)) (others m s);
    tie = λ m s e ne.
        ⊎_elim
        (λ (l : m * c ≤ w * 2 ^ k * c).
        let half : r * 2 ≡ 2 ^ k * c = omega (arith, step c w k) in
        let is : m ≡ w * 2 ^ k = same m (w * 2 ^ k) (omega (arith, step c w k)) in
        (digit_upper ∙ omega (arith, odd half), ap (last_digit f) is ∙ digit_lower ∙ odd half))
        (λ (l : suc w * 2 ^ k * c ≤ m * c). absurd (ne (same m (suc w * 2 ^ k) (omega (arith, step c w k)))))
        (others m s);
  }

  -- a tie goes to the even one of w and w + 1
  even_one : (d : ℕ) → w % 2 ≡ d → r * 2 ≡ 2 ^ k * c → NearestSize f a c ((w + d) * 2 ^ k)
  even_one zero e h = rw (add-zero w) (lower (omega arith) (λ t. e))
  even_one (suc d) e h =
      let one : w + suc d ≡ suc w = omega arith in
      subst (λ (n : ℕ). NearestSize f a c (n * 2 ^ k)) (sym one) (upper (omega arith) (λ t. omega arith))

  nearest_taken : (o : Ordering) → compare (r * 2) (2 ^ k * c) ≡ o → NearestSize f a c (nearest w o * 2 ^ k)
  nearest_taken Ordering.lt e =
      lower (leb-true _ _ (ap is_le e)) (λ tie. absurd (eqb-false _ _ (ap compare_is_eq e) tie))
  nearest_taken Ordering.eq e = even_one (w % 2) refl (eqb-true _ _ (ap compare_is_eq e))
  nearest_taken Ordering.gt e =
      let more : 2 ^ k * c < r * 2 = leb-false _ _ (ap is_le e) in
      upper (omega arith) (λ tie. omega arith)

-- ---- so the kit's rounding, before it asks for overflow, gives the nearest size

-- The leading digits of a / c: `lead` has prec digits of its whole part, or all of them where there are no more;
-- `shift` digits come after these; and `rest` is left.
pub record Leading (f : Format) (a c : ℕ) : Type 0 where
  pub lead : ℕ
  pub shift : ℕ
  pub rest : ℕ
  pub few : lead < 2 ^ prec f
  pub full : 0 < shift → 2 ^ (prec f - 1) ≤ lead
  pub parts : a ≡ lead * 2 ^ shift * c + rest
  pub less : rest < 2 ^ shift * c

unfoldable pub leading : (f : Format) (a c : ℕ) → 0 < c → Leading f a c
leading f a c C =
    let p = prec f in
    let q = a / c in
    let k = drop p a c in
    let u = 2 ^ k * c in
    let w = q / 2 ^ k in
    let whole : a / u ≡ w = ap (λ (n : ℕ). a / n) (mul_comm (2 ^ k) c) ∙ sym (div-div-eq-div-mul a c (2 ^ k)) in
    record {
      lead = w;
      shift = k;
      rest = a % u;
      -- q has p + k digits, or at most p where k is 0
      few = shr_lt p k (lt_of_lt_of_le (size-lt q) (pow_mono (omega arith)));
      full = λ some.
          let reached : 2 ^ (p - 1) * 2 ^ k ≤ q =
          rw (← pow-add 2 (p - 1) k) (size_reaches q (p - 1 + k) (omega (arith, two f))) in
          subst (λ (n : ℕ). n ≤ w) (shl-shr (2 ^ (p - 1)) k) (shr_mono k reached);
      parts =
          sym (div-add-mod' a u)
          ∙ ap (λ (n : ℕ). n + a % u) (ap (λ (n : ℕ). n * u) whole ∙ sym (mul_assoc w (2 ^ k) c));
      less = mod-lt a (mul-pos (pow_pos k) C);
    }

unfoldable pub unbounded : Format → ℕ → ℕ → ℕ
unbounded f a c = kept (prec f) a c * 2 ^ drop (prec f) a c

pub unbounded_nearest : (f : Format) (a c : ℕ) → 0 < c → NearestSize f a c (unbounded f a c)
unfolding unbounded leading
unbounded_nearest f a c C =
    let k = drop (prec f) a c in
    let u = 2 ^ k * c in
    let l = leading f a c C in
    subst₂ (λ (n v : ℕ). NearestSize f a c (nearest n (compare (a % v * 2) v) * 2 ^ k))
    (div-div-eq-div-mul a c (2 ^ k)) (mul_comm (2 ^ k) c)
    (nearest_taken f a c l.lead k l.rest C l.full l.few l.parts l.less (compare (a % u * 2) u) refl)

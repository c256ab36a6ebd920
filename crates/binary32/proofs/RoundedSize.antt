-- Rounding over whole numbers, the size alone: `rounded_to f a c` is the size, in units, of what a / c units round to.
-- It grows with the fraction, nothing rounds to nothing, equal fractions round alike, and the size of a value of the
-- format is its own rounding. Assumes nothing.
use mathlib.Core.Path.{◌≡◌, refl, sym, ap, ◌∙◌, subst, subst₂}
use Prim.Native.Nat.{ℕ, zero, suc, ◌+◌, ◌*◌, ◌/◌, ◌^◌, ◌≤◌, ◌<◌}
use native.Mathlib.Nat.{mul_assoc, one-mul, zero-mul, mul-pos, mul-le-mul_right}
use native.Mathlib.Omega.{arith}
use mathlib.Core.Bool.{Bool, true, false, not, cond}
use lib.Dec.{T, ltb, lit<}
use lib.IntN.{pos}
use lib.Pow.{pow_pos}
use lib.Ieee.{Float, inf, fin, Format, binary32, binary64, prec, low, is_nan, odd, units, round, le}
use lib.Ieee.Bits.{is_true}
use lib.Ieee.Exact.{HasValue, odd_sign, round_exact}
use lib.Ieee.Fits.{round_is, round-fits}
use lib.Ieee.Order.{drop, kept, round_mono}
use lib.Ieee.Scale.{grid, overflow, round_same}
use Rattle.binary32.specs.Whole.{negative, magnitude, over, under}
use Rattle.binary32.proofs.Magnitude.{Number, Finite, by_finite, held, multiple}
use Rattle.binary32.proofs.Magnitude.{magnitude_of, magnitude_shifted, finite_under}
use Rattle.binary32.proofs.Comparison.{le_units}

-- ---- what `round` gives: a number with the sign that it was handed, of a size that does not turn on that sign

odd_negative : (d : ℕ) (s : Bool) (q k l : ℕ) → negative (odd d s q k l) ≡ s
unfolding negative odd
odd_negative d s zero k l = refl
odd_negative d s (suc q) k l = refl

odd_number : (d : ℕ) (s : Bool) (q k l : ℕ) → T (not (is_nan (odd d s q k l)))
unfolding is_nan odd
odd_number d s zero k l = tt
odd_number d s (suc q) k l = tt

pub record Signed (f : Format) (x : Float) (s : Bool) (n : ℕ) : Type 0 where
  pub number : T (not (is_nan x))
  pub sign : negative x ≡ s
  pub size : magnitude f x ≡ n

-- a size, cut off at the overflow bound
unfoldable pub limit : Format → ℕ → ℕ
limit f n = cond (ltb n (overflow f)) n (overflow f)

units_signed : (f : Format) (s : Bool) (q k : ℕ) → Signed f (units f s q k) s (limit f (q * 2 ^ k))
unfolding units limit
units_signed f s q k = go (ltb (q * 2 ^ k) (overflow f))
  where
    go : (b : Bool) → Signed f (cond b (odd (suc (prec f)) s q k (low f)) (inf s)) s (cond b (q * 2 ^ k) (overflow f))
    go true = record {
      number = odd_number (suc (prec f)) s q k (low f);
      sign = odd_negative (suc (prec f)) s q k (low f);
      size = magnitude_of f (odd (suc (prec f)) s q k (low f)) s (q * 2 ^ k) (odd_sign (suc (prec f)) s q k (low f));
    }
    go false = unfold is_nan negative magnitude in record { number = tt; sign = refl; size = refl }

pub round_signed : (f : Format) (s : Bool) (a c : ℕ) → Signed f (round f s a c) s (limit f (grid f a c))
round_signed f s a c =
    subst (λ (z : Float). Signed f z s (limit f (grid f a c))) (sym (round_is f s a c))
    (units_signed f s (kept (prec f) (a * 2 ^ low f) c) (drop (prec f) (a * 2 ^ low f) c))

pub round_number : (f : Format) (s : Bool) (a c : ℕ) → Number f (round f s a c)
round_number f s a c = record { fits = round-fits f s a c; number = (round_signed f s a c).number }

pub round_negative : (f : Format) (s : Bool) (a c : ℕ) → negative (round f s a c) ≡ s
round_negative f s a c = (round_signed f s a c).sign

pub round_size : (f : Format) (s : Bool) (a c : ℕ) → magnitude f (round f s a c) ≡ magnitude f (round f false a c)
round_size f s a c = (round_signed f s a c).size ∙ sym (round_signed f false a c).size

-- ---- what a number of either sign counts over and under zero

pub over_positive : (f : Format) (x : Float) → negative x ≡ false → over f x ≡ magnitude f x
unfolding over
over_positive f x s = ap (λ (b : Bool). cond b 0 (magnitude f x)) s

pub under_positive : (f : Format) (x : Float) → negative x ≡ false → under f x ≡ 0
unfolding under
under_positive f x s = ap (λ (b : Bool). cond b (magnitude f x) 0) s

pub over_negative : (f : Format) (x : Float) → negative x ≡ true → over f x ≡ 0
unfolding over
over_negative f x s = ap (λ (b : Bool). cond b 0 (magnitude f x)) s

pub under_negative : (f : Format) (x : Float) → negative x ≡ true → under f x ≡ magnitude f x
unfolding under
under_negative f x s = ap (λ (b : Bool). cond b (magnitude f x) 0) s

-- one of the two is the size, and the other is 0
pub over_and_under : (f : Format) (x : Float) → over f x + under f x ≡ magnitude f x
over_and_under f x = go (negative x) refl
  where
    go : (s : Bool) → negative x ≡ s → over f x + under f x ≡ magnitude f x
    go false s = omega (arith, over_positive f x s, under_positive f x s)
    go true s = omega (arith, over_negative f x s, under_negative f x s)

-- ---- the size of what a / c units round to

unfoldable pub rounded_to : Format → ℕ → ℕ → ℕ
rounded_to f a c = magnitude f (round f false a (c * 2 ^ low f))

nothing_over_one : (f : Format) → round f false 0 1 ≡ fin false 0 (pos 0)
unfolding round
nothing_over_one binary32 = refl
nothing_over_one binary64 = refl

-- nothing, whatever it is divided by, rounds to +0
round_nothing : (f : Format) (c : ℕ) → 0 < c → round f false 0 c ≡ fin false 0 (pos 0)
round_nothing f c h = round_same f false 0 c 0 1 h (lit< tt) (zero-mul 1 ∙ sym (zero-mul c)) ∙ nothing_over_one f

pub rounded_nothing : (f : Format) (c : ℕ) → 0 < c → rounded_to f 0 c ≡ 0
unfolding rounded_to magnitude
rounded_nothing f c h =
    ap (magnitude f) (round_nothing f (c * 2 ^ low f) (mul-pos h (pow_pos (low f))))
    ∙ ap (λ (n : ℕ). n / 1) (zero-mul (2 ^ low f))

pub rounded_same : (f : Format) (a c b d : ℕ) → 0 < c → 0 < d → a * d ≡ b * c → rounded_to f a c ≡ rounded_to f b d
unfolding rounded_to
rounded_same f a c b d C D h =
    let L = pow_pos (low f) in
    ap (magnitude f) (round_same f false a (c * 2 ^ low f) b (d * 2 ^ low f) (mul-pos C L) (mul-pos D L)
    (sym (mul_assoc a d (2 ^ low f)) ∙ ap (λ (z : ℕ). z * 2 ^ low f) h ∙ mul_assoc b c (2 ^ low f)))

pub rounded_mono : (f : Format) (a c b d : ℕ) → 0 < c → 0 < d → a * d ≤ b * c → rounded_to f a c ≤ rounded_to f b d
unfolding rounded_to
rounded_mono f a c b d C D h =
    let L = 2 ^ low f in
    let x = round f false a (c * L) in
    let y = round f false b (d * L) in
    let wide : a * (d * L) ≤ b * (c * L) =
    subst₂ (λ (m n : ℕ). m ≤ n) (mul_assoc a d L) (mul_assoc b c L) (mul-le-mul_right L h) in
    let sx = round_negative f false a (c * L) in
    let sy = round_negative f false b (d * L) in
    let in_order : over f x + under f y ≤ over f y + under f x =
    le_units (round_number f false a (c * L)) (round_number f false b (d * L))
    (is_true (le x y)
    (round_mono f a (c * L) b (d * L) (mul-pos C (pow_pos (low f))) (mul-pos D (pow_pos (low f))) wide)) in
    omega (arith, over_positive f x sx, under_positive f x sx, over_positive f y sy, under_positive f y sy)

-- ---- a size of few digits rounds to itself

-- n is a number of no more digits than the format's, shifted
pub record Short (f : Format) (n : ℕ) : Type 0 where
  pub digits : ℕ
  pub shift : ℕ
  pub few : digits < 2 ^ prec f
  pub exact : n ≡ digits * 2 ^ shift

pub nothing_short : (f : Format) → Short f 0
nothing_short f = record { digits = 0; shift = 0; few = pow_pos (prec f); exact = refl }

pub rounded_short : {f : Format} {n : ℕ} → Short f n → n < overflow f → rounded_to f n 1 ≡ n
unfolding rounded_to
rounded_short {f} {n} k h =
    let L = 2 ^ low f in
    magnitude_of f (round f false n (1 * L)) false n
    (subst (λ (z : ℕ). HasValue (round f false n (1 * L)) false n z) (one-mul L)
    (round_exact f false n (1 * L) k.digits k.shift (mul-pos (pow_pos 0) (pow_pos (low f))) k.few
    (subst (λ (z : ℕ). z < overflow f) k.exact h)
    (ap (λ (z : ℕ). z * L) k.exact ∙ ap (λ (z : ℕ). k.digits * 2 ^ k.shift * z) (sym (one-mul L)))))

-- such is the size of a value of the format, which so is its own rounding
pub short : {f : Format} {x : Float} → Finite f x → Short f (magnitude f x)
short {f} =
    by_finite (λ x. Short f (magnitude f x))
    (λ s m e h.
    let k = multiple f m e (held f s m e h).fine in
    record { digits = m; shift = k.shift; few = (held f s m e h).digits; exact = magnitude_shifted f s m e k })

pub rounded_own : {f : Format} {x : Float} → Finite f x → rounded_to f (magnitude f x) 1 ≡ magnitude f x
rounded_own h = rounded_short (short h) (finite_under h)

-- The digits that the kit's crate io gives, the fewest that hold a number, are those of `specs/Digits.antt`. Assumes
-- nothing.
use mathlib.Core.Path.{◌≡◌, refl, ap}
use mathlib.Core.Bool.{Bool, true, false}
use mathlib.Core.List.{List, [], ◌∷◌, ◌++◌}
use Prim.Native.Nat.{ℕ, zero, suc, ◌-◌, ◌*◌, ◌/◌, ◌%◌, ◌^◌, ◌≤◌, ◌<◌}
use native.Mathlib.Nat.{pow-succ', pow-le-pow_right}
use native.Mathlib.Numerals.{unary_clauses}
use native.Mathlib.Omega.{arith}
use lib.Dec.{ltb}
use lib.ListN.{length, length-append}
use borrow.Author.Tests.{lt-ltb, le-ltb, ltb-true, ltb-false}
use Rattle.io.specs.Digits.{hex_digit_ascii, last_digits, IsDigitCount}
use Rattle.text.specs.Digits.{hex_of, decimal_within, decimal_of}

-- k digits are k
pub digits_length : (b k n : ℕ) → length (last_digits b k n) ≡ k
digits_length b zero n = refl
digits_length b (suc k) n = rw (length-append, digits_length b k (n / b)) (omega arith)

-- the fewest digits that hold a number are no more than any that do
pub fewest_most : (b least n k r : ℕ) → 0 < b → least ≤ k → n < b ^ k → IsDigitCount b least n r → r ≤ k
fewest_most b least n k r positive enough held h = go (ltb k r) refl
  where
    go : (t : Bool) → ltb k r ≡ t → r ≤ k
    go true e =
        let more : k < r = ltb-true k r e in
        let before : k ≤ r - 1 = omega arith in
        absurd (omega (arith, pow-le-pow_right positive before, h.2 (omega arith)))
    go false e = ltb-false k r e

-- ---- hex

-- eight hex digits hold 32 bits
pub fewest_hex : (n r : ℕ) → n < 2 ^ 32 → IsDigitCount 16 8 n r → last_digits 16 r n ≡ hex_of n
unfolding hex_of
fewest_hex n r held h =
    let eight : r ≡ 8 = omega (arith, h.0, fewest_most 16 8 n 8 r (omega arith) (omega arith) held h) in
    ap (λ (k : ℕ). last_digits 16 k n) eight

-- ---- decimal

-- a power of ten is over its exponent
below_power : (j : ℕ) → j < 10 ^ j
below_power zero = omega arith
below_power (suc j) = let h : j < 10 ^ j = below_power j in rw pow-succ' (omega arith)

-- where j digits come before the last, and the first is not 0 unless it is the last, they are the decimal digits
decimal_digits : (j k n : ℕ) → j ≤ k → n < 10 ^ suc j → (0 < j → 10 ^ j ≤ n) → last_digits 10 (suc j) n
    ≡ decimal_within k n
unfolding decimal_within
decimal_digits zero zero n le top low = refl
decimal_digits zero (suc k) n le top low = rw (lt-ltb n 10 (omega arith))
decimal_digits (suc j) zero n le top low = absurd (omega arith)
decimal_digits (suc j) (suc k) n le top low =
    let first : 10 * 10 ^ j ≤ n = rw pow-succ' at (low (omega arith)) in
    let above : n < 10 * 10 ^ suc j = rw pow-succ' at top in
    rw (le-ltb n 10 (omega (arith, below_power j)))
    (ap (λ (l : List ℕ). l ++ (hex_digit_ascii (n % 10) ∷ []))
    (decimal_digits j k (n / 10) (omega arith) (omega arith) (λ _. omega arith)))

pub fewest_decimal : (n r : ℕ) → IsDigitCount 10 1 n r → last_digits 10 r n ≡ decimal_of n
unfolding decimal_of
fewest_decimal n zero h = absurd (omega arith)
fewest_decimal n (suc j) h = decimal_digits j n n (fuel j first) h.1 first
  where
    first : 0 < j → 10 ^ j ≤ n
    first p = simp unary_clauses at (h.2 (omega arith))

    fuel : (j : ℕ) → (0 < j → 10 ^ j ≤ n) → j ≤ n
    fuel zero low = omega arith
    fuel (suc j) low = omega (arith, low (omega arith), below_power (suc j))

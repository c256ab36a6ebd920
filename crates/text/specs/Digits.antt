-- A number as text, in ASCII (document 01, "The command sheet": "It prints a line an entry"). `digits b k n` of the
-- kit's crate io is the last k digits of n in base b, the highest first, with `a` to `f` for 10 to 15. Definitions
-- only.
use Rattle.std.specs.Prelude.{ℕ, zero, suc, ◌/◌, ◌%◌, cond, List, [], ◌∷◌, ◌++◌, ltb}
use Rattle.io.specs.Digits.{hex_digit_ascii, last_digits}

-- A float's bits: "eight lower-case hex digits".
unfoldable pub hex_of : ℕ → List ℕ
hex_of bits = last_digits 16 8 bits

-- The decimal digits of n with no zero in front, at most k of them before the last: those of n / 10, if there are any,
-- and the last.
unfoldable pub decimal_within : ℕ → ℕ → List ℕ
decimal_within zero n = hex_digit_ascii (n % 10) ∷ []
decimal_within (suc k) n = cond (ltb n 10) [] (decimal_within k (n / 10)) ++ (hex_digit_ascii (n % 10) ∷ [])

-- The decimal digits of n: a number n has at most n digits before its last.
unfoldable pub decimal_of : ℕ → List ℕ
decimal_of n = decimal_within n n

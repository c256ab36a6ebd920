-- The library's `to_le_bytes` and `from_le_bytes` in the words of `specs/Bytes.antt`. Assumes nothing.
use mathlib.Core.Path.{◌≡◌, refl, sym, ◌∙◌}
use mathlib.Core.List.{List}
use Prim.Native.Nat.{ℕ, zero, suc, ◌+◌, ◌-◌, ◌*◌, ◌/◌, ◌%◌, ◌^◌, ◌<◌}
use native.Mathlib.Nat.{zero-add, div-one, div-div-eq-div-mul, mul_comm, pow-succ'}
use native.Mathlib.Numerals.{add-one}
use native.Mathlib.Omega.{arith}
use lib.ListN.{length, get_or}
use Rattle.std.specs.Int.{Width, byte_len, byte_at, byte_worth, bytes_low_first, sum_through}
use Rattle.std.specs.Int.{to_le_bytes, from_le_bytes}
use Rattle.wire.specs.Bytes.{little_endian, bytes_of, read_at}
use Rattle.wire.proofs.LittleEndian.{read_at_add, read_at_one}

-- ---- the bytes of a number

-- a number's byte i is the lowest of what is left of it without the i bytes under it
byte_left : (i n : ℕ) → byte_at i n ≡ n / 256 ^ i % 256
byte_left zero n = rw div-one
byte_left (suc i) n = refl

-- the k bytes from byte i on are those of what is left
bytes_from : (i k n : ℕ) → bytes_low_first i k n ≡ bytes_of k (n / 256 ^ i)
unfolding bytes_of
bytes_from i zero n = refl
bytes_from i (suc k) n =
    rw (byte_left i n, bytes_from (suc i) k n, div-div-eq-div-mul, pow-succ', mul_comm 256 (256 ^ i))

-- all of them
pub to_le_bytes_is : (w : Width) (n : ℕ) → to_le_bytes w n ≡ bytes_of (byte_len w) n
to_le_bytes_is w n = rw div-one at (bytes_from 0 (byte_len w) n)

-- ---- the number of bytes

-- one byte more is read over the others
read_at_more : (k : ℕ) (s : List ℕ) (at : ℕ) → read_at (suc k) s at ≡ read_at k s at + get_or s (at + k) 0 * 256 ^ k
read_at_more k s at = rw (← add-one k, read_at_add k 1 s at, read_at_one, mul_comm (256 ^ k))

-- two places where the same k bytes stand are read alike
pub read_at_same : (k : ℕ) (s t : List ℕ) (at n : ℕ)
    → ((i : ℕ) → i < k → get_or s (at + i) 0 ≡ get_or t (n + i) 0) → read_at k s at ≡ read_at k t n
unfolding read_at little_endian
read_at_same zero s t at n h = refl
read_at_same (suc k) s t at n h =
    rw (
      read_at_more k s at,
      read_at_more k t n,
      read_at_same k s t at n (λ i l. h i (omega arith)),
      h k (omega arith),
    )

-- the sum of what each of k + 1 bytes is worth
sum_of_bytes : (k : ℕ) (bs : List ℕ) → sum_through (λ i. byte_worth i (get_or bs i 0)) k ≡ read_at (suc k) bs 0
sum_of_bytes zero bs = sym (read_at_one bs 0)
sum_of_bytes (suc k) bs = rw (sum_of_bytes k bs, read_at_more (suc k) bs 0, zero-add)

-- the number that the library makes of bytes is the one that is read at their start
pub from_le_bytes_is : (w : Width) (bs : List ℕ) → 0 < byte_len w → from_le_bytes w bs ≡ read_at (byte_len w) bs 0
from_le_bytes_is w bs h =
    let e : suc (byte_len w - 1) ≡ byte_len w = omega arith in
    rw e at (sum_of_bytes (byte_len w - 1) bs)

-- bytes that are those of s from a place on are the number there
pub from_le_bytes_at : (w : Width) (bs s : List ℕ) (at : ℕ) → 0 < byte_len w → length bs ≡ byte_len w
    → ((i : ℕ) → i < length bs → get_or bs i 0 ≡ get_or s (at + i) 0) → from_le_bytes w bs ≡ read_at (byte_len w) s at
from_le_bytes_at w bs s at some long each =
    from_le_bytes_is w bs some
    ∙ read_at_same (byte_len w) bs s 0 at (λ i h. rw zero-add (each i (omega arith)))

-- What the clauses of `src/lib.rt` cite: numbers as bytes, and their places in a run of bytes. The order is that of
-- document 01, "The command sheet": little-endian. Each definition is over the number of bytes. Assumes nothing.
use Rattle.std.specs.Prelude.{ℕ, zero, suc, ◌+◌, ◌*◌, ◌/◌, ◌%◌, cond, List, [], ◌∷◌, ◌++◌, leb, length, take, drop}

-- The number that bytes stand for, the least byte first (document 01, "The command sheet").
unfoldable pub little_endian : List ℕ → ℕ
little_endian [] = 0
little_endian (b ∷ bs) = b + 256 * little_endian bs

-- The lowest k bytes of x, the least first (document 01, "The command sheet").
unfoldable pub bytes_of : ℕ → ℕ → List ℕ
bytes_of zero x = []
bytes_of (suc k) x = x % 256 ∷ bytes_of k (x / 256)

-- The number of k bytes that stands at a place of s, where a byte past the end counts as 0 (document 01, "The command
-- sheet").
unfoldable pub read_at : ℕ → List ℕ → ℕ → ℕ
read_at k s at = little_endian (take k (drop at s))

-- The bytes bs laid over out at a place where all of them fit; else out as it is (document 01, "The command sheet").
unfoldable pub write_at : List ℕ → ℕ → List ℕ → List ℕ
write_at out at bs = cond (leb (at + length bs) (length out)) (take at out ++ bs ++ drop (at + length bs) out) out

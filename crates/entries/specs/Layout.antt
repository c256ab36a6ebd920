-- Where the numbers of a sheet stand (document 01, 'The command sheet (ours)'). A sheet is the list of its bytes; a
-- byte past its end counts as 0. Definitions only; the quotations are document 01's.
use Rattle.std.specs.Prelude.{cond, List, ℕ, zero, suc, ◌+◌, ◌*◌, eqb, Float}
use Rattle.std.specs.Float.{binary32}
use Rattle.std.specs.Float.Ieee.{of_bits}
use Rattle.wire.specs.Bytes.{read_at}

-- ---- the head

-- "Bytes: version 1; entry count k, 0..64; two-byte total length."
abbrev pub version_of : List ℕ → ℕ
version_of s = read_at 1 s 0

abbrev pub count_of : List ℕ → ℕ
count_of s = read_at 1 s 1

abbrev pub length_field : List ℕ → ℕ
length_field s = read_at 2 s 2

-- ---- the entries

-- "Then k entries of four bytes: kind, rotor byte, two-byte offset of the body."
abbrev pub entry_at : ℕ → ℕ
entry_at i = 4 + 4 * i

abbrev pub kind_of : List ℕ → ℕ → ℕ
kind_of s i = read_at 1 s (entry_at i)

abbrev pub rotor_of : List ℕ → ℕ → ℕ
rotor_of s i = read_at 1 s (entry_at i + 1)

abbrev pub offset_of : List ℕ → ℕ → ℕ
offset_of s i = read_at 2 s (entry_at i + 2)

-- ---- the bodies

-- "A body holds f32 thrust, roll, pitch, yaw (16 bytes) and, except for plain, floor (20 bytes)": how many bytes it
-- has, by the kind
unfoldable pub body_size : ℕ → ℕ
body_size kind = cond (eqb kind 0) 16 20

-- "Then bodies in entry order, touching": where the body of entry i has to begin, which is the end of the one before
-- it, and for the first the end of the contents; for i = k, where the sheet has to end
unfoldable pub body_at : List ℕ → ℕ → ℕ
body_at s zero = entry_at (count_of s)
body_at s (suc i) = body_at s i + body_size (kind_of s i)

-- number j of the body of entry i, which is at its offset: thrust, roll, pitch, yaw and floor are 0 to 4
unfoldable pub number_in : List ℕ → ℕ → ℕ → Float
number_in s i j = of_bits binary32 (read_at 4 s (offset_of s i + 4 * j))

-- ---- the output

-- "Each entry writes 20 bytes at its place in the output"
abbrev pub answer_size : ℕ
answer_size = 20

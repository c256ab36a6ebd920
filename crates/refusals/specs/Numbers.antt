-- The numbers of refusals (the table in document 01, 'The command sheet (ours)'). docs/REFUSALS.md has their words for
-- people. A new number is a line here. Definitions only; the quotations are document 01's.
use Rattle.std.specs.Prelude.{ℕ}

-- "accepted"
abbrev pub accepted : ℕ
accepted = 0

-- "under 4 bytes"
abbrev pub too_short : ℕ
too_short = 1

-- "version not 1"
abbrev pub bad_version : ℕ
bad_version = 2

-- "k over 64"
abbrev pub too_many : ℕ
too_many = 3

-- "length field differs from the lent length, or that is under 4 + 4k"
abbrev pub bad_length : ℕ
bad_length = 4

-- "entry's kind over 4"
abbrev pub bad_kind : ℕ
bad_kind = 5

-- "rotor byte not 0, kind not 4"
abbrev pub bad_rotor : ℕ
bad_rotor = 6

-- "offset is not the previous body's end (first entry: 4 + 4k)"
abbrev pub bad_offset : ℕ
bad_offset = 7

-- "last body's end (k = 0: 4) is not the length"
abbrev pub bad_end : ℕ
bad_end = 8

-- "output under 20k bytes"
abbrev pub short_output : ℕ
short_output = 9

-- "(lent rows) over 64 outputs, or rows not four for each output"
abbrev pub bad_rows : ℕ
bad_rows = 10

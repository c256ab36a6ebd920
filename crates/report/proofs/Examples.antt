-- Document 01's three sheets: what is printed for them, computed from the definitions. Assumes nothing.
use mathlib.Core.Path.{◌≡◌, refl}
use mathlib.Core.List.{List, [], ◌∷◌, ◌++◌}
use Prim.Native.Nat.{ℕ}
use lib.Ieee.{add, sub, mul, div, neg, lt, le, eq, of_bits, to_bits}
use Rattle.number.specs.Treat.{treated, clamped, limited, floor_clamp}
use Rattle.wire.specs.Bytes.{little_endian, bytes_of, read_at}
use Rattle.fit.specs.Fit.{limits, motor_limit, tightened, walk, settled, fit_scale}
use Rattle.rules.specs.Rows.{quad_rows}
use Rattle.rules.specs.Command.{lifted, delta, deltas}
use Rattle.rules.specs.ThrustFloor.{one_scale, scaled_motor, scaled_motors, thrust_floor_scale, thrust_floor_motors}
use Rattle.refusals.specs.Told.{first, at_entry}
use Rattle.entries.specs.Layout.{body_size, body_at, number_in}
use Rattle.entries.specs.Choice.{failed_of, case_of, choice_number}
use Rattle.entries.specs.Entry.{command_of, command_with, command_at}
use Rattle.sheet.specs.Table.{entry_number, head_number, end_number, entries_told, judged}
use Rattle.sheet_run.specs.Run.{called, commands_from, float_bytes, answers_of, judged_for}
use Rattle.text.specs.Digits.{hex_of, decimal_within, decimal_of}
use Rattle.lines.specs.Lines.{word_at, line_of, lines_from, lines_of, refused_line}
use Rattle.report.specs.Report.{printed}

-- `01 00 04 00` prints nothing
no_entries : printed (0x01 ∷ 0x00 ∷ 0x04 ∷ 0x00 ∷ []) ≡ []
unfolding printed judged_for judged head_number first at_entry entries_told end_number body_at read_at little_endian
    lines_of lines_from
no_entries = refl

-- `01 41 04 00` prints `refused 3 at 0`
too_many : printed (0x01 ∷ 0x41 ∷ 0x04 ∷ 0x00 ∷ [])
    ≡ 114 ∷ 101 ∷ 102 ∷ 117 ∷ 115 ∷ 101 ∷ 100 ∷ 32 ∷ 51 ∷ 32 ∷ 97 ∷ 116 ∷ 32 ∷ 48 ∷ 10 ∷ []
unfolding printed judged_for judged head_number first at_entry read_at little_endian refused_line decimal_of
    decimal_within
too_many = refl

-- the sheet of one thrust-floor entry prints `0 1 3e800000 3e800000 3f400000 3f400000 3f000000`
before_body : List ℕ
before_body = 0x01 ∷ 0x01 ∷ 0x1c ∷ 0x00 ∷ 0x01 ∷ 0x00 ∷ 0x08 ∷ 0x00 ∷ []

body : List ℕ
body =
    0x00 ∷ 0x00 ∷ 0x00 ∷ 0x3f ∷ 0x00 ∷ 0x00 ∷ 0x00 ∷ 0x3f ∷ 0x00 ∷ 0x00 ∷ 0x00 ∷ 0x00 ∷ 0x00 ∷ 0x00 ∷ 0x00 ∷ 0x00
    ∷ 0x00 ∷ 0x00 ∷ 0x80 ∷ 0x3e ∷ []

quarter : List ℕ
quarter = 32 ∷ 51 ∷ 101 ∷ 56 ∷ 48 ∷ 48 ∷ 48 ∷ 48 ∷ 48 ∷ []

three_quarters : List ℕ
three_quarters = 32 ∷ 51 ∷ 102 ∷ 52 ∷ 48 ∷ 48 ∷ 48 ∷ 48 ∷ 48 ∷ []

half : List ℕ
half = 32 ∷ 51 ∷ 102 ∷ 48 ∷ 48 ∷ 48 ∷ 48 ∷ 48 ∷ 48 ∷ []

one_entry : printed (before_body ++ body)
    ≡ (48 ∷ 32 ∷ 49 ∷ []) ++ quarter ++ quarter ++ three_quarters ++ three_quarters ++ half ++ (10 ∷ [])
unfolding before_body body quarter three_quarters half add sub mul div neg lt le eq of_bits to_bits treated clamped
    limited floor_clamp little_endian bytes_of read_at limits motor_limit tightened walk settled fit_scale quad_rows
    lifted delta deltas one_scale scaled_motor scaled_motors thrust_floor_scale thrust_floor_motors first at_entry
    body_size body_at number_in failed_of case_of command_of command_with command_at choice_number entry_number
    head_number end_number entries_told judged called commands_from float_bytes answers_of judged_for hex_of
    decimal_within decimal_of word_at line_of lines_from lines_of printed
one_entry = refl

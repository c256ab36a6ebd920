-- What `mixrun` prints (document 01, 'The command sheet (ours)': "Program `mixrun`"). Definitions only; the quotations
-- are document 01's.
use Rattle.std.specs.Prelude.{cond, List, ℕ, ◌*◌, eqb}
use Rattle.refusals.specs.Numbers.{accepted}
use Rattle.quad.specs.State.{fresh}
use Rattle.entries.specs.Layout.{answer_size}
use Rattle.sheet.specs.Table.{max_entries}
use Rattle.sheet_run.specs.Run.{commands_of, answers_of, judged_for}
use Rattle.lines.specs.Lines.{lines_of, refused_line}

-- the program's own output has room for the answers of the most entries, 1,280 bytes
abbrev pub room : ℕ
room = answer_size * max_entries

-- "The bytes read are the sheet, run from a fresh state. It prints a line an entry [...] A refusal is one line"
unfoldable pub printed : List ℕ → List ℕ
printed s =
    cond (eqb (judged_for s room).number accepted)
    (lines_of s (answers_of fresh (commands_of s)))
    (refused_line (judged_for s room).number (judged_for s room).of_entry)

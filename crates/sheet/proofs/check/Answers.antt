-- `sheet::check` meets its contract: each test of the head is a line of the table, and what is left is told by the
-- entries. Assumes nothing.
use mathlib.Core.Path.{sym, ◌∙◌}
use Rattle.entries.specs.declared.refusal.Refusal.TheVariants.{TooShort, BadVersion, TooMany, BadLength}
use Rattle.sheet.proofs.Head.{told_of_head, told_of_entries, too_short_lem, bad_version_lem}
use Rattle.sheet.proofs.Head.{too_many_lem, length_differs, contents_cut, head_passes}
use Rattle.sheet.proofs.check.Goals as goal

pub returns-then-sheet-lt4 : goal.returns-then-sheet-lt4
returns-then-sheet-lt4 c = rw c.into.ensures (sym (told_of_head _ TooShort (too_short_lem _ c.if-sheet-lt4.true)))

pub returns-then-version-ne1 : goal.returns-then-version-ne1
returns-then-version-ne1 c =
    rw c.into-then-version-ne1.ensures (sym (told_of_head _ BadVersion
    (bad_version_lem _ c.if-sheet-lt4.false (λ e. c.if-version-ne1.true (c.version.ensures ∙ e)))))

pub returns-then-count-gt-MAX_ENTRIES : goal.returns-then-count-gt-MAX_ENTRIES
returns-then-count-gt-MAX_ENTRIES c =
    rw c.into-then-count-gt-MAX_ENTRIES.ensures (sym (told_of_head _ TooMany
    (too_many_lem _ c.if-sheet-lt4.false (sym c.version.ensures ∙ c.if-version-ne1.false)
    (rw c.count.ensures at c.if-count-gt-MAX_ENTRIES.true))))

pub returns-then-length_field-sheet : goal.returns-then-length_field-sheet
returns-then-length_field-sheet c =
    rw c.into-then-length_field-sheet.ensures (sym (told_of_head _ BadLength
    (length_differs _ c.if-sheet-lt4.false (sym c.version.ensures ∙ c.if-version-ne1.false)
    (rw c.count.ensures at c.if-count-gt-MAX_ENTRIES.false)
    (λ e. c.if-length_field-sheet.true (c.length_field.ensures ∙ e)))))

pub returns-then-sheet-entry_at : goal.returns-then-sheet-entry_at
returns-then-sheet-entry_at c =
    let cut = rw (c.entry_at.ensures, c.count-2.ensures) at c.if-sheet-entry_at.true in
    rw c.into-then-sheet-entry_at.ensures (sym (told_of_head _ BadLength
    (contents_cut _ c.if-sheet-lt4.false (sym c.version.ensures ∙ c.if-version-ne1.false)
    (rw c.count.ensures at c.if-count-gt-MAX_ENTRIES.false) (sym c.length_field.ensures
    ∙ c.if-length_field-sheet.false) cut)))

pub returns : goal.returns
returns c =
    let enough = rw (c.entry_at.ensures, c.count-2.ensures) at c.if-sheet-entry_at.false in
    c.check_entries.ensures
    ∙ sym (told_of_entries _
    (head_passes _ c.if-sheet-lt4.false (sym c.version.ensures ∙ c.if-version-ne1.false)
    (rw c.count.ensures at c.if-count-gt-MAX_ENTRIES.false) (sym c.length_field.ensures
    ∙ c.if-length_field-sheet.false) enough))

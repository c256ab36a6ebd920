-- `sheet::check_entries` meets its contract. The invariant: `end` is where the body of the entry has to begin, and what
-- is told of the entries from it on is what is told of all. Assumes nothing.
use mathlib.Core.Path.{◌≡◌, sym, ap, ap₂, ◌∙◌}
use Prim.Native.Nat.{◌+◌, ◌≤◌}
use native.Mathlib.Omega.{arith}
use lib.ListN.{length}
use Rattle.entries.specs.Layout.{count_of, body_size, body_at}
use Rattle.sheet.specs.Table.{entries_told}
use Rattle.entries.proofs.Chosen.{never_accepted}
use Rattle.sheet.proofs.Verdicts.{accepted_number}
use Rattle.sheet.proofs.Walk.{body_first, body_next, body_most, size_most, told_passed}
use Rattle.sheet.proofs.Walk.{told_refused, told_end, end_refused, end_accepted}
use Rattle.sheet.proofs.check_entries.Goals as goal

pub loop-number-init : goal.loop-number-init
loop-number-init c =
    let counted = c.count-k.ensures in
    record {
      ends = simp (c.entry_at-end.ensures, counted, body_first);
      told = rw counted (ap (entries_told _ 0) (omega arith));
    }

pub returns-in_default : goal.returns-in_default
returns-in_default c =
    let inv = c.loop-number.invariant in
    rw c.in_default.is
    (sym (told_refused _ c.loop-number.number _ c.loop-number-test.true
    (sym (rw (c.in_default.is, inv.ends) at c.check_entry-checked.ensures)) (never_accepted c.in_default.field-0.why))
    ∙ inv.told)

pub overflow_add-end : goal.overflow_add-end
overflow_add-end c =
    let s = c.args.sheet.now in
    let size : c.body_size-end.result ≤ 20 = rw c.body_size-end.ensures (size_most _) in
    omega (arith, c.loop-number.invariant.ends, body_most s c.loop-number.number, c.count-k.ensures)

pub loop-number-preserved : goal.loop-number-preserved
loop-number-preserved c =
    let inv = c.loop-number.invariant in
    let s = c.args.sheet.now in
    let i = c.loop-number.number in
    record {
      ends = ap₂ ◌+◌ inv.ends (c.body_size-end.ensures ∙ ap body_size c.kind.ensures) ∙ sym (body_next s i);
      told =
          sym (told_passed s i _ c.loop-number-test.true
          (accepted_number (rw inv.ends at c.check_entry-checked.ensures) c.in-Ok.is))
          ∙ inv.told;
    }

pub returns-then-end-sheet : goal.returns-then-end-sheet
returns-then-end-sheet c =
    let s = c.args.sheet.now in
    let k = c.count-k in
    let last : c.loop-number.number ≡ count_of s = omega (arith, k.ensures) in
    rw (
      ← c.loop-number.invariant.told,
      k.ensures,
      last,
      told_end,
      end_accepted s (rw (c.loop-number.invariant.ends, last) at c.if-end-sheet.true),
    )

pub returns : goal.returns
returns c =
    let s = c.args.sheet.now in
    let k = c.count-k in
    let last : c.loop-number.number ≡ count_of s = omega (arith, k.ensures) in
    let differs : (body_at s (count_of s) ≡ length s → ⊥) =
    λ e. c.if-end-sheet.false (rw (c.loop-number.invariant.ends, last) e) in
    rw (c.into.ensures, ← c.loop-number.invariant.told, k.ensures, last, told_end, end_refused s differs)

-- The public contract determines its answer: two results that satisfy it are one. It says what is told, which tells the
-- cases of the verdict apart. Assumes nothing.
use mathlib.Core.Path.{◌≡◌, refl, sym, ap, ap₂, ◌∙◌}
use mathlib.Core.List.{List}
use Prim.Native.Nat.{ℕ}
use borrow.Author.Tests.{eqb-false}
use Rattle.refusals.specs.Numbers.{accepted}
use Rattle.refusals.specs.Told.{Told}
use Rattle.general.proofs.Determined.{Determined}
use Rattle.entries.specs.Refusal.{refusal_number}
use Rattle.entries.proofs.Chosen.{never_accepted}
use Rattle.entries.proofs.Determined.{number_tells}
use Rattle.std.specs.declared.result.Result.{Result}
use Rattle.std.specs.declared.result.Result.TheVariants.{Ok, Err}
use Rattle.sheet.specs.declared.Refused.{Refused}
use Rattle.sheet.specs.Table.{judged, told_by}

-- the paper's number and entry number tell the answers apart
pub verdict_tells : (v w : Result Unit Refused) → told_by v ≡ told_by w → v ≡ w
verdict_tells (Ok a) (Ok b) e = refl
verdict_tells (Err r) (Err q) e =
    let reason : r.why ≡ q.why = number_tells r.why q.why (ap (λ (t : Told). t.number) e) in
    let same_entry : r.entry ≡ q.entry = ap (λ (t : Told). t.of_entry) e in
    ap₂ (λ why i. Err (record { why = why; entry = i })) reason same_entry
verdict_tells (Ok a) (Err q) e =
    absurd (eqb-false (refusal_number q.why) accepted (never_accepted q.why) (sym (ap (λ (t : Told). t.number) e)))
verdict_tells (Err r) (Ok b) e =
    absurd (eqb-false (refusal_number r.why) accepted (never_accepted r.why) (ap (λ (t : Told). t.number) e))

pub check_determined : (s : List ℕ) → Determined (λ v. told_by v ≡ judged s)
check_determined s v w h k = verdict_tells v w (h ∙ sym k)

-- What a verdict says of the number that is told. Assumes nothing.
use mathlib.Core.Path.{◌≡◌, sym, ap}
use Rattle.refusals.specs.Numbers.{accepted}
use Rattle.refusals.specs.Told.{Told}
use Rattle.entries.specs.Refusal.{refusal_number}
use Rattle.std.specs.declared.result.Result.{Result}
use Rattle.std.specs.declared.result.Result.TheVariants.{Ok, Err}
use Rattle.sheet.specs.declared.Refused.{Refused}
use Rattle.sheet.specs.Table.{told_by}

module _ {v : Result Unit Refused} {t : Told} (told : told_by v ≡ t) where
  pub accepted_number : v ≡ Ok tt → t.number ≡ accepted
  accepted_number is = sym (ap (λ (t : Told). t.number) (rw is at told))

  pub refused_number : {r : Refused} → v ≡ Err r → t.number ≡ refusal_number r.why
  refused_number is = sym (ap (λ (t : Told). t.number) (rw is at told))

-- What the number of a choice says of the answer, and the answer of its number. Assumes nothing.
use mathlib.Core.Path.{◌≡◌, refl, sym, ◌∙◌}
use mathlib.Core.Bool.{false}
use mathlib.Core.List.{[], ◌∷◌}
use Prim.Native.Nat.{ℕ}
use lib.Dec.{eqb}
use Rattle.refusals.specs.Numbers.{accepted}
use Rattle.entries.specs.declared.choice.Case.{Case}
use Rattle.std.specs.declared.result.Result.TheVariants.{Ok, Err}
use Rattle.entries.specs.declared.refusal.Refusal.{Refusal}
use Rattle.entries.specs.declared.refusal.Refusal.TheVariants.{TooShort, BadVersion, TooMany, BadLength, BadKind}
use Rattle.entries.specs.declared.refusal.Refusal.TheVariants.{BadRotor, BadOffset, BadEnd, ShortOutput}
use Rattle.entries.specs.Refusal.{refusal_number}
use Rattle.entries.specs.Choice.{Chosen}

-- no refusal has number 0
pub never_accepted : (r : Refusal) → eqb (refusal_number r) accepted ≡ false
never_accepted TooShort = refl
never_accepted BadVersion = refl
never_accepted TooMany = refl
never_accepted BadLength = refl
never_accepted BadKind = refl
never_accepted BadRotor = refl
never_accepted BadOffset = refl
never_accepted BadEnd = refl
never_accepted ShortOutput = refl

-- ---- from the number to the answer

pub case_chosen : {number : ℕ} {c d : Case} → number ≡ accepted → d ≡ c → Chosen number c (Ok d)
case_chosen n e = record { told = rw n; cases = rw (n, e) }

pub refusal_chosen : {number : ℕ} {c : Case} (r : Refusal) → number ≡ refusal_number r → Chosen number c (Err r)
refusal_chosen r n = record { told = sym n; cases = rw (n, never_accepted r) }

-- ---- from the answer to the number

pub chosen_case : {number : ℕ} {c d : Case} → Chosen number c (Ok d) → (number ≡ accepted) × (d ≡ c)
chosen_case {number} {c} {d} h = (sym h.told, same)
  where
    list : d ∷ [] ≡ c ∷ []
    list = h.cases ∙ rw (sym h.told)

    same : d ≡ c
    same = cc

pub chosen_refusal : {number : ℕ} {c : Case} {r : Refusal} → Chosen number c (Err r) → number ≡ refusal_number r
chosen_refusal h = sym h.told

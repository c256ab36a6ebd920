-- What the kind and the rotor byte of an entry choose, before any of its numbers is read: which of the five commands it
-- is, or which of refusals 5 and 6 (document 01, 'The command sheet (ours)'). Definitions only; the quotations are
-- document 01's.
use Rattle.std.specs.Prelude.{◌≡◌, cond, not, ◌&&◌, List, [], ◌∷◌, ℕ, ltb, eqb, Result, Ok, Err}
use Rattle.refusals.specs.Numbers.{accepted, bad_kind, bad_rotor}
use Rattle.refusals.specs.Told.{given, first}
use Rattle.entries.specs.declared.choice.Case.{Case}
use Rattle.entries.specs.declared.choice.Case.TheVariants.{Plain, ThrustFloor, Priority, Airmode, RotorOut}
use Rattle.entries.specs.declared.refusal.Refusal.{Refusal}
use Rattle.entries.specs.Refusal.{refusal_number}

-- ---- the case

-- "Rotor byte: 0..3 names M1..M4; 4..255 means none lost": for all of these the number 4
abbrev pub none_lost : ℕ
none_lost = 4

unfoldable pub failed_of : ℕ → ℕ
failed_of rotor = cond (ltb rotor none_lost) rotor none_lost

-- "Kinds 0 plain, 1 thrust-floor, 2 priority, 3 airmode, 4 rotor-out." (No case is asked of a kind over 4, which is
-- refused.)
unfoldable pub case_of : ℕ → ℕ → Case
case_of kind rotor =
    cond (eqb kind 0) Plain
    (cond (eqb kind 1) ThrustFloor
    (cond (eqb kind 2) Priority
    (cond (eqb kind 3) Airmode
    (RotorOut (failed_of rotor)))))

-- ---- the refusals

-- "entry's kind over 4", then "rotor byte not 0, kind not 4"
unfoldable pub choice_number : ℕ → ℕ → ℕ
choice_number kind rotor =
    first (given (ltb 4 kind) bad_kind ∷ given (not (eqb kind 4) && not (eqb rotor 0)) bad_rotor ∷ [])

-- ---- the answer

-- the paper's number and the values for each case of a choice: the number 0 and the case of a command, or the refusal's
-- number
abbrev pub choice_told : Result Case Refusal → ℕ
choice_told (Ok c) = accepted
choice_told (Err r) = refusal_number r

abbrev pub cases_in : Result Case Refusal → List Case
cases_in (Ok c) = c ∷ []
cases_in (Err r) = []

-- an answer of this number, and where it is 0 of this case
pub record Chosen (number : ℕ) (is : Case) (c : Result Case Refusal) : Type 0 where
  pub told : choice_told c ≡ number
  pub cases : cases_in c ≡ cond (eqb number accepted) (is ∷ []) []

-- the choice of a kind and a rotor byte
abbrev pub ChosenBy : ℕ → ℕ → Result Case Refusal → Type 0
ChosenBy kind rotor = Chosen (choice_number kind rotor) (case_of kind rotor)

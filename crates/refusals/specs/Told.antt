-- How a number is chosen, "first that applies", and what is told: a number, and the number of the entry that it comes
-- with (the table in document 01, 'The command sheet (ours)'). Definitions only; the quotations are document 01's.
use Rattle.std.specs.Prelude.{Bool, cond, List, [], ◌∷◌, ℕ, eqb}
use Rattle.refusals.specs.Numbers.{accepted}

-- a line of the table: its number, "given exactly when" the line applies
abbrev pub given : Bool → ℕ → ℕ
given applies number = cond applies number accepted

-- "first that applies": of two numbers in the order of the table, and of any
abbrev pub or_else : ℕ → ℕ → ℕ
or_else n m = cond (eqb n accepted) m n

unfoldable pub first : List ℕ → ℕ
first [] = accepted
first (n ∷ ns) = or_else n (first ns)

-- what is answered: a number, and the number of the entry that it comes with
pub record Told : Type 0 where
  pub number : ℕ
  pub of_entry : ℕ

-- "other numbers come with 0"
abbrev pub alone : ℕ → Told
alone n = record { number = n; of_entry = 0 }

-- a number of entry i, and where the number is 0 what comes after it
unfoldable pub at_entry : ℕ → ℕ → Told → Told
at_entry n i later = cond (eqb n accepted) later (record { number = n; of_entry = i })

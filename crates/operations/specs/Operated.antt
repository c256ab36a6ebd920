-- What the clauses of `src/operate.rt` cite: each operation's result, and its number in the list. Assumes nothing.
use Rattle.std.specs.Prelude.{◌≡◌, ℕ, ◌≤◌, Float, Result, MatchResult}
use Rattle.binary32.specs.Arithmetic.{◌+f◌, ◌-f◌, ◌*f◌, ◌/f◌}
use Rattle.operations.specs.declared.operate.Operation.{Operation}
use Rattle.operations.specs.declared.operate.Operation.TheVariants.{Sum, Difference, Product, Quotient}
use Rattle.operations.specs.declared.operate.NoOperation.{NoOperation}

abbrev pub operated : Operation → Float → Float → Float
operated Sum x y = x +f y
operated Difference x y = x -f y
operated Product x y = x *f y
operated Quotient x y = x /f y

abbrev pub number_of : Operation → ℕ
number_of Sum = 1
number_of Difference = 2
number_of Product = 3
number_of Quotient = 4

-- A number gives the operation that has it, and one outside 1 to 4 gives none.
abbrev pub Numbered : ℕ → Result Operation NoOperation → Type 0
Numbered n r = MatchResult r (λ operation. number_of operation ≡ n) (λ none. (none.0 ≡ n) × ((1 ≤ n) × (n ≤ 4) → ⊥))

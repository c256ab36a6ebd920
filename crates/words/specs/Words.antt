-- Whether two runs of words agree in each of their first k. Definitions only.
use Rattle.std.specs.Prelude.{Bool, true, ◌&&◌, List, ℕ, zero, suc, eqb, get_or}

unfoldable pub agree : ℕ → List ℕ → List ℕ → Bool
agree zero a b = true
agree (suc k) a b = agree k a b && eqb (get_or a k 0) (get_or b k 0)

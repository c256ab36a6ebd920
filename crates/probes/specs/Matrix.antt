-- How a matrix is passed to the probes. Definitions only.
use Rattle.std.specs.Prelude.{List, [], ◌∷◌, get_or, Float}
use Rattle.std.specs.Float.{nan}

-- nine entries, row by row, as three rows
abbrev pub rows : List Float → List (List Float)
rows a =
    (get_or a 0 nan ∷ get_or a 1 nan ∷ get_or a 2 nan ∷ [])
    ∷ (get_or a 3 nan ∷ get_or a 4 nan ∷ get_or a 5 nan ∷ [])
    ∷ (get_or a 6 nan ∷ get_or a 7 nan ∷ get_or a 8 nan ∷ []) ∷ []

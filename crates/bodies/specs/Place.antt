-- Where the body of an entry stands, as two numbers. Definitions only.
use Rattle.std.specs.Prelude.{List, ℕ, length}
use Rattle.bodies.specs.Body.{handed_back, handed_at}
use Rattle.bodies.specs.declared.Part.{Part}

-- where the part that is handed back begins, and its length
abbrev pub place_of : List ℕ → ℕ → Part
place_of s i = record { at = handed_at s i; size = length (handed_back s i) }

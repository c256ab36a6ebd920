-- A test of two that fails has failed of both. Assumes nothing.
use mathlib.Core.Path.{◌≡◌, refl}
use mathlib.Core.Bool.{Bool, true, false, ◌||◌}

pub neither : (p q : Bool) → p || q ≡ false → (p ≡ false) × (q ≡ false)
neither false false e = (refl, refl)
neither false true e = (refl, e)
neither true q e = let no : true ≡ false = e in (e, cc)

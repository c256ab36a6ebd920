-- A column replaced row by row: the first rows of it, as far as a loop has come. Assumes nothing.
use mathlib.Core.List.{List}
use Prim.Native.Nat.{ℕ, zero, suc}
use lib.ListN.{get_or}
use lib.Ieee.{Float, nan}
use Rattle.solve.specs.Solve.{put}

abbrev pub replaced_below : List (List Float) → ℕ → List Float → ℕ → List (List Float)
replaced_below a k v zero = a
replaced_below a k v (suc i) = put (replaced_below a k v i) i k (get_or v i nan)

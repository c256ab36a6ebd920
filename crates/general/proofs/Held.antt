-- What the walk of the code knows of an array of floats: each element is a float that binary32 holds. Assumes nothing.
use mathlib.Core.Path.{sym, subst}
use mathlib.Core.List.{List, [], ◌∷◌}
use Prim.Native.Nat.{ℕ, zero, suc}
use lib.Dec.{T}
use lib.ListN.{get_or}
use lib.Ieee.{Float, nan, binary32, fits}
use lib.Ieee.Fits.{nan-fits}
use mir.Val.{Val}
use denote.Array.{Array, each}
use denote.Floats.{FloatOf}
use denote.Laws.{Is}
use denote.Shadow.{shadow}

each_held : (xs : List Float) (us : List Val) → shadow (each Float (FloatOf binary32).own_val xs us) → (k : ℕ)
    → T (fits binary32 (get_or xs k nan))
each_held [] us h k = nan-fits binary32
each_held (x ∷ xs) [] h k = absurd h
each_held (x ∷ xs) (u ∷ us) h zero = subst T (sym h.0.1) tt
each_held (x ∷ xs) (u ∷ us) h (suc k) = each_held xs us h.1 k

pub array_held : (n : ℕ) (xs : List Float) (vs : List Val) → Is (Array (FloatOf binary32) n) xs vs → (k : ℕ)
    → T (fits binary32 (get_or xs k nan))
array_held n xs vs p = each_held xs p.0 p.1.1

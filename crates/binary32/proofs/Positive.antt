-- A number over zero: what counts something over zero has no minus sign. In either format. Assumes nothing.
use mathlib.Core.Path.{◌≡◌, refl}
use mathlib.Core.Bool.{Bool, true, false}
use Prim.Native.Nat.{◌<◌}
use native.Mathlib.Omega.{arith}
use lib.Ieee.{Float, Format}
use Rattle.binary32.specs.Whole.{negative, over}
use Rattle.binary32.proofs.Magnitude.{Number}
use Rattle.binary32.proofs.RoundedSize.{over_negative}

pub record Positive (f : Format) (x : Float) : Type 0 where
  pub number : Number f x
  pub plus : negative x ≡ false
  pub some : 0 < over f x

pub positive : {f : Format} {x : Float} → Number f x → 0 < over f x → Positive f x
positive {f} {x} n h = record { number = n; plus = go (negative x) refl; some = h }
  where
    go : (s : Bool) → negative x ≡ s → s ≡ false
    go false s = refl
    go true s = let no : ⊥ = omega (arith, over_negative f x s) in absurd no

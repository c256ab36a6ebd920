-- The same number taken from all: what the largest has over 1, or +0, which leaves each as it is, a zero's sign too.
-- Assumes nothing.
use mathlib.Core.Path.{◌≡◌, refl}
use mathlib.Core.Bool.{Bool, true, false, cond}
use Prim.Native.Nat.{ℕ, ◌+◌, ◌-◌, ◌*◌}
use native.Mathlib.Nat.{zero-mul}
use native.Mathlib.Omega.{arith}
use lib.Dec.{T}
use borrow.Author.Tests.{le-ltb}
use lib.Ieee.{Float, nan, inf, fin, binary32, fits, up, down, lt, of_bits, neg, sum, add, sub}
use Rattle.binary32.specs.Arithmetic.{◌-f◌, 0f, 1f}
use Rattle.binary32.specs.Whole.{negative}
use Rattle.binary32.proofs.Magnitude.{Finite}
use Rattle.binary32.proofs.RoundedSize.{round_negative}
use Rattle.binary32.proofs.Rounded.{same_rounded, own_rounding, by_difference}
use Rattle.binary32.proofs.Operations.{sub_rounded}
use Rattle.binary32.proofs.Range.{zero_finite, zero_over, zero_under}
use Rattle.rules.specs.Plain.{lowered_by}

-- a sum with -0 has the sign of its first part
sign_with_nothing : (s : Bool) (a b c : ℕ) → b ≡ 0 → negative (sum binary32 s a true b c) ≡ s
unfolding sum
sign_with_nothing true a b c h = round_negative binary32 true (a + b) c
sign_with_nothing false a b c h = rw (le-ltb a b (omega arith)) (round_negative binary32 false (a - b) c)

sign_kept : (x : Float) → negative (x -f 0f) ≡ negative x
unfolding negative sub add neg of_bits
sign_kept nan = refl
sign_kept (inf s) = refl
sign_kept (fin s m e) = sign_with_nothing s (m * up e * 1) (0 * down e) (down e * 1) (zero-mul (down e))

nothing_taken : (x : Float) → T (fits binary32 x) → x -f 0f ≡ x
unfolding sub add neg of_bits
nothing_taken nan h = refl
nothing_taken (inf s) h = refl
nothing_taken (fin s m e) h =
    let x = fin s m e in
    let hx : Finite binary32 x = record { fits = h; finite = tt } in
    same_rounded (by_difference (sub_rounded hx zero_finite) _ _ (omega (arith, zero_over, zero_under)))
    (own_rounding hx) (sign_kept x)

pub excess_taken_lem : (most x : Float) → T (fits binary32 x) → x -f cond (lt 1f most) (most -f 1f) 0f
    ≡ lowered_by most x
unfolding lowered_by
excess_taken_lem most x h = go (lt 1f most)
  where
    go : (p : Bool) → x -f cond p (most -f 1f) 0f ≡ cond p (x -f (most -f 1f)) x
    go true = refl
    go false = nothing_taken x h

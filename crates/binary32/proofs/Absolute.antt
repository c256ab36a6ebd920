-- The size of a number is under a limit exactly where the number lies between the limit's negative and the limit: two
-- comparisons in place of an absolute value. It holds for every number, NaN and the infinities too, and for every limit
-- that is finite and not negative. And the absolute value is the number with a positive sign, which is what the
-- library's `abs` makes. Assumes nothing.
use mathlib.Core.Path.{◌≡◌, refl, sym}
use mathlib.Core.Bool.{Bool, true, false, ◌&&◌}
use Prim.Native.Nat.{ℕ, ◌+◌, ◌*◌}
use native.Mathlib.Nat.{add_comm}
use native.Mathlib.Omega.{arith}
use borrow.Author.Tests.{ltb-true, lt-ltb}
use lib.Dec.{ltb}
use lib.IntN.{ℤ}
use lib.Ieee.{Float, nan, inf, fin, up, down, lt, neg, of_bits}
use Rattle.std.specs.Float.{float_with_sign}
use Rattle.binary32.specs.Arithmetic.{absolute, small}

-- ---- a finite number is compared with one limit by its size, and with the other by 0 < a + b, which a < b implies

over_zero : (a b : ℕ) → ltb a b ≡ true → ltb 0 (a + b) ≡ true
over_zero a b t = lt-ltb 0 (a + b) (omega (arith, ltb-true a b t))

-- a test u that holds wherever t does adds nothing to t, before it or after it
before : (t u : Bool) → (t ≡ true → u ≡ true) → t ≡ u && t
before true u h = rw (h refl)
before false true h = refl
before false false h = refl

after : (t u : Bool) → (t ≡ true → u ≡ true) → t ≡ t && u
after true u h = sym (h refl)
after false u h = refl

-- ---- the law, and the law at small

pub absolute_below : (x : Float) (n : ℕ) (d : ℤ)
    → lt (absolute x) (fin false n d) ≡ lt x (fin false n d) && lt (neg (fin false n d)) x
unfolding absolute lt neg
absolute_below nan n d = refl
absolute_below (inf true) n d = refl
absolute_below (inf false) n d = refl
absolute_below (fin true m e) n d = before _ _ (over_zero (m * up e * down d) (n * up d * down e))
absolute_below (fin false m e) n d =
    rw (add_comm (n * up d * down e)) (after _ _ (over_zero (m * up e * down d) (n * up d * down e)))

pub absolute_below_small : (x : Float) → lt (absolute x) small ≡ lt x small && lt (neg small) x
unfolding of_bits
absolute_below_small x = absolute_below x _ _

-- ---- the absolute value by its sign

pub unsigned_is : (x : Float) → float_with_sign false x ≡ absolute x
unfolding float_with_sign absolute
unsigned_is nan = refl
unsigned_is (inf s) = refl
unsigned_is (fin s m e) = refl

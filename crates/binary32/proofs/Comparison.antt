-- The comparisons of numbers are those of a total order, in either format; and what is found in order is a number.
-- Assumes nothing.
use mathlib.Core.Path.{◌≡◌, sym, ap, ◌∙◌}
use mathlib.Core.Bool.{Bool, true, false, not, ◌||◌, false≢true}
use Prim.Native.Nat.{◌+◌, ◌≤◌, ◌<◌}
use native.Mathlib.Omega.{arith}
use borrow.Author.Tests.{ltb-true, ltb-false, leb-true, lt-ltb, le-ltb, le-leb}
use lib.Dec.{T}
use lib.Ieee.{Float, nan, inf, fin, Format, lt, le, eq, is_nan}
use Rattle.binary32.specs.Whole.{over, under}
use Rattle.binary32.proofs.Magnitude.{Number}
use Rattle.binary32.proofs.Order.{lt_whole, le_whole}

-- ---- what is smaller is at most as large, and a NaN is in order with nothing, on either side

pub less_le : (x y : Float) → lt x y ≡ true → le x y ≡ true
unfolding le
less_le x y h = ap (λ (b : Bool). b || eq x y) h

pub le_number : (x y : Float) → le x y ≡ true → T (not (is_nan x))
unfolding le is_nan
le_number nan y h = absurd (false≢true h)
le_number (inf s) y h = tt
le_number (fin s m e) y h = tt

pub number_le : (x y : Float) → le x y ≡ true → T (not (is_nan y))
unfolding le lt eq is_nan
number_le nan nan h = absurd (false≢true h)
number_le (inf s) nan h = absurd (false≢true h)
number_le (fin s m e) nan h = absurd (false≢true h)
number_le x (inf t) h = tt
number_le x (fin t n d) h = tt

-- ---- the order of the whole numbers, there and back

pub lt_units : {f : Format} {x y : Float} → Number f x → Number f y → lt x y ≡ true
    → over f x + under f y < over f y + under f x
lt_units nx ny h = ltb-true _ _ (sym (lt_whole nx ny) ∙ h)

pub units_lt : {f : Format} {x y : Float} → Number f x → Number f y → over f x + under f y < over f y + under f x
    → lt x y ≡ true
units_lt nx ny h = lt_whole nx ny ∙ lt-ltb _ _ h

pub le_units : {f : Format} {x y : Float} → Number f x → Number f y → le x y ≡ true
    → over f x + under f y ≤ over f y + under f x
le_units nx ny h = leb-true _ _ (sym (le_whole nx ny) ∙ h)

pub units_le : {f : Format} {x y : Float} → Number f x → Number f y → over f x + under f y ≤ over f y + under f x
    → le x y ≡ true
units_le nx ny h = le_whole nx ny ∙ le-leb _ _ h

-- ---- the order is total

pub le_refl : {f : Format} {x : Float} → Number f x → le x x ≡ true
le_refl n = units_le n n (omega arith)

pub le_trans : {f : Format} {x y z : Float} → Number f x → Number f y → Number f z → le x y ≡ true → le y z ≡ true
    → le x z ≡ true
le_trans nx ny nz p q =
    let first = le_units nx ny p in
    let second = le_units ny nz q in
    units_le nx nz (omega arith)

pub less_trans : {f : Format} {x y z : Float} → Number f x → Number f y → Number f z → lt x y ≡ true → lt y z ≡ true
    → lt x z ≡ true
less_trans nx ny nz p q =
    let first = lt_units nx ny p in
    let second = lt_units ny nz q in
    units_lt nx nz (omega arith)

-- what is not under y is at least y, and what is at most y is not over it
pub not_under : {f : Format} {x y : Float} → Number f x → Number f y → lt x y ≡ false → le y x ≡ true
not_under nx ny e = units_le ny nx (ltb-false _ _ (sym (lt_whole nx ny) ∙ e))

pub not_over : {f : Format} {x y : Float} → Number f x → Number f y → le x y ≡ true → lt y x ≡ false
not_over nx ny h = lt_whole ny nx ∙ le-ltb _ _ (le_units nx ny h)

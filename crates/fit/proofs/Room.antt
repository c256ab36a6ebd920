-- Enough room is no limit: where a - b, taken exactly, is at least d, and d is over zero, the quotient of the rounded
-- difference by d is not under 1. Rounding keeps the order twice: a - b rounds to no less than d, which is its own
-- rounding, and the quotient, at least 1, to no less than 1.
-- In either format. Assumes nothing.
use mathlib.Core.Path.{◌≡◌, refl, subst}
use mathlib.Core.Bool.{true, false, true≢false}
use Prim.Native.Nat.{ℕ, ◌+◌, ◌*◌, ◌^◌, ◌≤◌, ◌<◌}
use native.Mathlib.Nat.{mul-one, zero-mul, mul_comm, mul-le-mul_right}
use native.Mathlib.Omega.{arith}
use lib.Pow.{pow_pos}
use lib.Ieee.{Float, nan, inf, fin, Format, low, is_nan, lt, sub, div}
use Rattle.binary32.specs.Whole.{negative, magnitude, over, under}
use Rattle.binary32.proofs.Magnitude.{Finite, finite_number}
use Rattle.binary32.proofs.Comparison.{units_le, not_over}
use Rattle.binary32.proofs.RoundedSize.{over_positive, under_positive}
use Rattle.binary32.proofs.Positive.{Positive, positive}
use Rattle.binary32.proofs.Rounded.{Rounded, rounded_order, own_rounding}
use Rattle.binary32.proofs.Operations.{sub_rounded, div_rounded}
use Rattle.binary32.proofs.Products.{unit, unit_finite, over_unit, under_unit}

-- ---- the quotient of a positive number by a smaller one

finite_quotient : {f : Format} {r d : Float} → Finite f r → Positive f r → Finite f d → Positive f d
    → over f d ≤ over f r → lt (div f r d) unit ≡ false
finite_quotient {f} {r} {d} hr pr hd pd h =
    let L = 2 ^ low f in
    let n = magnitude f d in
    let size : over f d ≡ n = over_positive f d pd.plus in
    let some : 0 < n = subst (λ (k : ℕ). 0 < k) size pd.some in
    let q : Rounded f (div f r d) (over f r * L) (under f r * L) n = simp pd.plus at (div_rounded hr hd some) in
    let fits : n * L ≤ over f r * L = mul-le-mul_right L (subst (λ (k : ℕ). k ≤ over f r) size h) in
    let more : over f unit + under f (div f r d) ≤ over f (div f r d) + under f unit =
    rounded_order (own_rounding (unit_finite f)) q (pow_pos 0) some
    (simp (over_unit, under_unit, under_positive f r pr.plus, zero-mul, mul-one, mul_comm L n) (omega arith)) in
    let u = finite_number (unit_finite f) in
    not_over u q.number (units_le u q.number more)

quotient : {f : Format} {r d : Float} → Positive f r → Finite f d → Positive f d → over f d ≤ over f r
    → lt (div f r d) unit ≡ false
unfolding is_nan negative div lt
quotient {f} {r = nan} {d} pr hd pd h = absurd pr.number.number
quotient {f} {r = inf true} {d} pr hd pd h = absurd (true≢false pr.plus)
quotient {f} {r = inf false} {d = nan} pr hd pd h = absurd hd.finite
quotient {f} {r = inf false} {d = inf t} pr hd pd h = absurd hd.finite
quotient {f} {r = inf false} {d = fin true n e} pr hd pd h = absurd (true≢false pd.plus)
quotient {f} {r = inf false} {d = fin false n e} pr hd pd h = refl
quotient {f} {r = fin s m e} {d} pr hd pd h =
    finite_quotient (record { fits = pr.number.fits; finite = tt }) pr hd pd h

pub enough_room : {f : Format} {a b d : Float} → Finite f a → Finite f b → Finite f d → Positive f d
    → over f d + (over f b + under f a) ≤ under f d + (over f a + under f b) → lt (div f (sub f a b) d) unit ≡ false
enough_room {f} {a} {b} {d} ha hb hd pd h =
    let r = sub f a b in
    let k = sub_rounded ha hb in
    let order : over f d + under f r ≤ over f r + under f d =
    rounded_order (own_rounding hd) k (pow_pos 0) (pow_pos 0) (omega (arith, mul-one (over f d))) in
    let none = under_positive f d pd.plus in
    let some = pd.some in
    quotient (positive k.number (omega arith)) hd pd (omega arith)

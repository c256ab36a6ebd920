-- The kit's rounding is the standard's: what the kit rounds an exact result to (`Rounded`) is what IEEE 754-2019,
-- 4.3.1, has delivered for it (`RoundsTo`), and nothing else is. So the standard's words determine a number, a zero's
-- sign aside. In either format. Assumes nothing.
use mathlib.Core.Path.{◌≡◌, refl, sym, ap, ◌∙◌, subst, subst₂}
use mathlib.Core.Bool.{true}
use Prim.Native.Nat.{ℕ, ◌*◌, ◌%◌, ◌≤◌, ◌<◌}
use native.Mathlib.Nat.{le_antisymm, le_of_eq, lt_of_le_of_lt}
use native.Mathlib.Decide.{dec_le, ℕ_discrete}
use native.Mathlib.Omega.{arith}
use lib.Dec.{T}
use lib.Pow.{pow_pos}
use lib.IntN.{ℤ, nat_abs}
use lib.Ieee.{Float, inf, Format, fits, to_bits, eq, is_nan}
use lib.Ieee.Scale.{overflow, finite}
use Rattle.binary32.specs.Whole.{negative, magnitude}
use Rattle.binary32.specs.Rounding.{rounding}
use Rattle.binary32.specs.Nearest.{distance, bound, Nearest, TiesToEven, RoundsTo}
use Rattle.binary32.proofs.Magnitude.{Number, Finite, is_finite, finite_number, under_finite, same_number}
use Rattle.binary32.proofs.Rounded.{Rounded, one_rounding}
use Rattle.binary32.proofs.Integers.{Difference, own_pair, rounding_rounded}
use Rattle.binary32.proofs.LastDigit.{last_digit, pattern_digit}
use Rattle.binary32.proofs.NearestSize.{gap, NearestSize, unbounded_nearest}
use Rattle.binary32.proofs.Bound.{beyond_bound, under_bound, within_bound}
use Rattle.binary32.proofs.Sides.{side, ahead, behind, distance_sided, side_sign, sides}
use Rattle.binary32.proofs.Sides.{sides_size, whole_of_sides, sides_of_whole}
use Rattle.binary32.proofs.Toward.{Toward, toward, rounded_toward, toward_size, toward_distance, farther, tied}

-- an exact result's size reaches the bound or does not
by_bound : {A : Type 0} (f : Format) (w : ℤ) (c : ℕ) → (bound f * c ≤ nat_abs w → A) → (nat_abs w < bound f * c → A) → A
by_bound {A} f w c beyond within = go (dec_le (bound f * c) (nat_abs w))
  where
    go : Dec (bound f * c ≤ nat_abs w) → A
    go (yes h) = beyond h
    go (no h) = within (omega arith)

-- ---- what is rounded is delivered

infinite_of : {f : Format} {z : Float} → Number f z → magnitude f z ≡ overflow f → z ≡ inf (negative z)
unfolding fits is_nan negative magnitude
infinite_of n e = same_number n (record { fits = tt; number = tt }) refl e

module _ {f : Format} {z : Float} {w : ℤ} {c : ℕ} (C : 0 < c) (t : Toward f z w c) where
  infinite : bound f * c ≤ nat_abs w → z ≡ inf (side w)
  infinite h =
      let full : ahead (side w) f z ≡ overflow f = t.there ∙ beyond_bound f (nat_abs w) c C h in
      infinite_of t.number (toward_size t ∙ full)
      ∙ ap inf (side_sign (side w) f z (subst (λ (n : ℕ). 0 < n) (sym full) (pow_pos _)))

  module _ (h : nat_abs w < bound f * c) where
    number : Finite f z
    number =
        under_finite t.number
        (lt_of_le_of_lt (le_of_eq (toward_size t ∙ t.there)) (within_bound f (nat_abs w) c C h))

    nearest_size : NearestSize f (nat_abs w) c (ahead (side w) f z)
    nearest_size =
        subst (NearestSize f (nat_abs w) c) (sym (t.there ∙ under_bound f (nat_abs w) c C h))
        (unbounded_nearest f (nat_abs w) c C)

    nearest : Nearest f w c z
    nearest = record {
      held = number.fits;
      number = number.finite;
      nearest =
          λ y h i. subst₂ ◌≤◌ (sym (toward_distance t)) (sym (distance_sided f w c y))
          (farther C nearest_size (sides (side w) (is_finite h i)));
    }

    ties_to_even : TiesToEven f w c z
    ties_to_even y h i e differ =
        let level = sym (distance_sided f w c y) ∙ e ∙ toward_distance t in
        let tie =
        tied C nearest_size (sides (side w) (is_finite h i)) level
        (λ o u. differ (whole_of_sides (side w) f y z o (u ∙ sym t.back))) in
        pattern_digit number ∙ ap (last_digit f) (toward_size t) ∙ tie.even

  delivered : RoundsTo f w c z
  delivered = record { beyond = infinite; within = λ h. (nearest h, ties_to_even h) }

pub rounds_to : {f : Format} {z : Float} {w : ℤ} {p n c : ℕ} → Rounded f z p n c → Difference w p n → 0 < c
    → RoundsTo f w c z
rounds_to r d C = delivered C (toward C d r)

-- so the kit's `rounding` is one way to find what is delivered
pub rounding_delivered : (f : Format) (w : ℤ) (c : ℕ) → 0 < c → RoundsTo f w c (rounding f w c)
rounding_delivered f w c C = rounds_to (rounding_rounded f c (own_pair w) C) (own_pair w) C

-- ---- and nothing else is: z is what is delivered, and k what the kit rounds to

module _ {f : Format} {z k : Float} {w : ℤ} {c : ℕ} (C : 0 < c) (t : Toward f k w c) (r : RoundsTo f w c z) where
  -- both are nearest, so they are equally near; were they two, then the last digit of z, which is even by 4.3.1, would
  -- be odd
  module _ (h : nat_abs w < bound f * c) where
    own : Finite f z
    own = is_finite (r.within h).0.held (r.within h).0.number

    level : distance f w c k ≡ distance f w c z
    level =
        let kits = number C t h in
        le_antisymm ((nearest C t h).nearest z own.fits own.finite)
        ((r.within h).0.nearest k kits.fits kits.finite)

    not_two : (ahead (side w) f z ≡ ahead (side w) f k → behind (side w) f z ≡ 0 → ⊥) → ⊥
    not_two differ =
        let near = sym (distance_sided f w c z) ∙ sym level ∙ toward_distance t in
        let tie = tied C (nearest_size C t h) (sides (side w) own) near differ in
        let even : to_bits f z % 2 ≡ 0 =
        (r.within h).1 k (number C t h).fits (number C t h).finite level
        (λ e. let same = sides_of_whole (side w) f k z e in differ (sym same.0) (sym same.1 ∙ t.back)) in
        let size : magnitude f z ≡ ahead (side w) f z = omega (arith, sides_size (side w) f z, tie.none) in
        let digit : last_digit f (ahead (side w) f z) ≡ 0 =
        ap (last_digit f) (sym size) ∙ sym (pattern_digit own) ∙ even in
        omega (arith, tie.odd)

    nearest_toward : Toward f z w c
    nearest_toward = go (ℕ_discrete (ahead (side w) f z) (ahead (side w) f k)) (ℕ_discrete (behind (side w) f z) 0)
      where
        go : Dec (ahead (side w) f z ≡ ahead (side w) f k) → Dec (behind (side w) f z ≡ 0) → Toward f z w c
        go (yes o) (yes u) = record { number = finite_number own; there = o ∙ t.there; back = u }
        go (no n) u = absurd (not_two (λ o v. n o))
        go (yes o) (no n) = absurd (not_two (λ i u. n u))

  only : Toward f z w c
  only =
      by_bound f w c (λ h. subst (λ (x : Float). Toward f x w c) (infinite C t h ∙ sym (r.beyond h)) t) nearest_toward

pub delivered_toward : {f : Format} {z : Float} {w : ℤ} {c : ℕ} → RoundsTo f w c z → 0 < c → Toward f z w c
delivered_toward {f} {w} {c} r C = only C (toward C (own_pair w) (rounding_rounded f c (own_pair w) C)) r

pub delivered_rounded : {f : Format} {z : Float} {w : ℤ} {p n c : ℕ} → RoundsTo f w c z → Difference w p n → 0 < c
    → Rounded f z p n c
delivered_rounded r d C = rounded_toward C d (delivered_toward r C)

-- ---- so the words determine a number, a zero's sign aside

pub determined : {f : Format} {z y : Float} {w : ℤ} {c : ℕ} → 0 < c → RoundsTo f w c z → RoundsTo f w c y
    → eq z y ≡ true
determined {w} C rz ry = one_rounding (delivered_rounded rz (own_pair w) C) (delivered_rounded ry (own_pair w) C)

-- where it is finite, the exact result lies under the bound
under_the_bound : {f : Format} {z : Float} {w : ℤ} {c : ℕ} → T (finite z) → RoundsTo f w c z → nat_abs w < bound f * c
under_the_bound {f} {w} {c} t r =
    by_bound f w c (λ h. absurd (subst (λ (x : Float). T (finite x)) (r.beyond h) t)) (λ h. h)

-- so it is a nearest number, and the even one of two
pub delivered_nearest : {f : Format} {z : Float} {w : ℤ} {c : ℕ} → T (finite z) → RoundsTo f w c z
    → Nearest f w c z × TiesToEven f w c z
delivered_nearest t r = r.within (under_the_bound t r)

-- and its size is the nearest size
pub delivered_size : {f : Format} {z : Float} {w : ℤ} {c : ℕ} → T (finite z) → RoundsTo f w c z → 0 < c
    → NearestSize f (nat_abs w) c (ahead (side w) f z) × (distance f w c z ≡ gap (nat_abs w) (ahead (side w) f z * c))
delivered_size t r C =
    let seen = delivered_toward r C in (nearest_size C seen (under_the_bound t r), toward_distance seen)

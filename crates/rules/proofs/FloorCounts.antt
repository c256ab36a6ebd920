-- What the floor of a command counts as, for the person who signs: the promises speak of the limited floor, and this
-- says what that is for every f32. Assumes nothing.
use mathlib.Core.Path.{◌≡◌, refl}
use mathlib.Core.Bool.{true, false}
use lib.Dec.{T}
use lib.Ieee.{Float, binary32, fits, lt, of_bits}
use lib.Ieee.Bits.{is_true}
use lib.Ieee.Scale.{finite}
use Rattle.binary32.specs.Arithmetic.{0f, 1f}
use Rattle.binary32.specs.Range.{Between}
use Rattle.binary32.proofs.Magnitude.{finite_number}
use Rattle.binary32.proofs.Comparison.{less_le, le_trans, not_over}
use Rattle.binary32.proofs.Range.{zero_finite, zero_number, one_number}
use Rattle.number.specs.Treat.{treated, clamped, limited}
use Rattle.number.proofs.Choice.{by_test}
use Rattle.rules.proofs.Clamp.{inside, inside_number, clamped_stays, treated_stays, zero_floor}

pub record FloorCounts (floor : Float) : Type 0 where
  -- a floor in 0..1 is taken as it is, by bits
  pub in_range : Between 0f 1f floor → limited floor ≡ floor
  -- a NaN, an infinity, and a negative one count as 0
  pub not_finite : finite floor ≡ false → limited floor ≡ 0f
  pub negative : lt floor 0f ≡ true → limited floor ≡ 0f
  -- a finite one over 1 counts as 1
  pub over_one : T (finite floor) → lt 1f floor ≡ true → limited floor ≡ 1f

-- +0, which takes the place of what is not finite, lies in 0..1 already
zero_stays : clamped 0f 0f 1f ≡ 0f
unfolding clamped lt of_bits
zero_stays = refl

pub floor_counts : (floor : Float) → T (fits binary32 floor) → FloorCounts floor
unfolding limited treated clamped
floor_counts x h =
    record { in_range = in_range; not_finite = λ e. rw e zero_stays; negative = negative; over_one = over_one }
  where
    in_range : Between 0f 1f x → limited x ≡ x
    in_range b =
        let i = inside zero_finite h b in
        rw (treated_stays i.finite)
        (clamped_stays zero_number one_number zero_floor.between.to (inside_number i) b)

    negative : lt x 0f ≡ true → limited x ≡ 0f
    negative l = by_test (λ y. clamped y 0f 1f ≡ 0f) (finite x) (λ e. rw l) (λ e. zero_stays)

    over_one : T (finite x) → lt 1f x ≡ true → limited x ≡ 1f
    over_one e l =
        let n = finite_number (record { fits = h; finite = e }) in
        rw (
          is_true (finite x) e,
          not_over zero_number n (le_trans zero_number one_number n zero_floor.between.to (less_le 1f x l)),
          l,
        )

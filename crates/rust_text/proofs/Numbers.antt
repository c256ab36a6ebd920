-- The Rust's functions of one number are document 01's: the treatment, the limit, the clamps and the absolute value, of
-- every f32. Assumes nothing.
use mathlib.Core.Path.{◌≡◌, refl, ap, ◌∙◌}
use mathlib.Core.Bool.{Bool, true, false, not, ◌||◌, cond}
use lib.Dec.{T}
use lib.Ieee.{Float, binary32, fits, lt, le, eq, neg, of_bits}
use lib.Ieee.Scale.{finite}
use Rattle.binary32.specs.Arithmetic.{0f, 1f}
use Rattle.binary32.proofs.Comparison.{le_number, number_le, not_over}
use Rattle.number.specs.Treat.{treated, clamped, limited, floor_clamp, unit_clamp}
use Rattle.rules.specs.RotorOut.{8f}
use Rattle.rust_text.specs.Numbers.{clamp_panics, clamp, clamp_floor, clamp01, sanitise, clamp01_of001}

pub sanitise_is : (x : Float) → sanitise x ≡ treated x
unfolding sanitise treated
sanitise_is x = go (finite x)
  where
    go : (b : Bool) → cond (not b) 0f x ≡ cond b x 0f
    go true = refl
    go false = refl

-- ---- `f32::clamp`: where it does not panic it is ours, which takes every two ends

-- what is at most hi is not over it
ends_in_order : (lo hi : Float) → T (fits binary32 lo) → T (fits binary32 hi) → clamp_panics lo hi ≡ false
    → lt hi lo ≡ false
ends_in_order lo hi fl fh e =
    let h : le lo hi ≡ true = go (le lo hi) e in
    not_over {f = binary32} (record { fits = fl; number = le_number lo hi h })
    (record { fits = fh; number = number_le lo hi h }) h
  where
    go : (b : Bool) → not b ≡ false → b ≡ true
    go true e = refl
    go false e = cc

pub clamp_is : (x lo hi : Float) → T (fits binary32 lo) → T (fits binary32 hi) → clamp_panics lo hi ≡ false
    → clamp x lo hi ≡ clamped x lo hi
unfolding clamp clamped
clamp_is x lo hi fl fh e = go (lt x lo)
  where
    go : (b : Bool) → cond (lt hi (cond b lo x)) hi (cond b lo x) ≡ cond b lo (cond (lt hi x) hi x)
    go true = rw (ends_in_order lo hi fl fh e)
    go false = refl

-- the two pairs of ends that the Rust calls it with: it never panics
pub unit_ends : clamp_panics 0f 1f ≡ false
unfolding le lt eq of_bits
unit_ends = refl

pub tilt_ends : clamp_panics (neg 8f) 8f ≡ false
unfolding le lt eq neg of_bits
tilt_ends = refl

pub clamp01_is : (x : Float) → clamp01 x ≡ clamped x 0f 1f
unfolding clamp01
clamp01_is x = clamp_is x 0f 1f (unfold fits of_bits in tt) (unfold fits of_bits in tt) unit_ends

pub tilt_clamp : (x : Float) → clamp x (neg 8f) 8f ≡ clamped x (neg 8f) 8f
tilt_clamp x = clamp_is x (neg 8f) 8f (unfold fits neg of_bits in tt) (unfold fits of_bits in tt) tilt_ends

pub limited_is : (x : Float) → clamp01 (sanitise x) ≡ limited x
unfolding limited
limited_is x = clamp01_is (sanitise x) ∙ ap (λ (z : Float). clamped z 0f 1f) (sanitise_is x)

-- ---- the other clamps

pub clamp_floor_is : (x lo : Float) → clamp_floor x lo ≡ floor_clamp x lo
unfolding clamp_floor floor_clamp clamped
clamp_floor_is x lo = go (finite x)
  where
    go : (b : Bool)
        → cond (not b || lt x lo) lo (cond (lt 1f x) 1f x) ≡ cond b (cond (lt x lo) lo (cond (lt 1f x) 1f x)) lo
    go true = refl
    go false = refl

pub clamp01_of_001_is : (x : Float) → clamp01_of001 x ≡ unit_clamp x
unfolding clamp01_of001 unit_clamp clamped
clamp01_of_001_is x = refl

-- Each public contract determines its answer, and that of `mix` the lent outputs too: two results that satisfy it are
-- one, by bits. Assumes nothing.
use mathlib.Core.Path.{◌≡◌, refl, ap₂}
use mathlib.Core.List.{List}
use Prim.Native.Nat.{ℕ}
use lib.Ieee.{Float}
use Rattle.rules.specs.Rows.{Row, hex_rows, octo_rows}
use Rattle.general.proofs.Determined.{Determined, equal_determined}
use Rattle.std.specs.Prelude.{Ok, Err}
use Rattle.thrust_floor.specs.declared.MotorsAndScale.{MotorsAndScale}
use Rattle.multi.specs.declared.Wrench.{Wrench}
use Rattle.multi_thrust_floor.specs.Floored.{FloorAnswer, scale_answered, Floored, RowsFloored}

-- the motors and the scale
pub floored_determined : (rows : List Row) (w : Wrench) (floor : Float) (motors others : List Float)
    (scale other : Float)
    → Floored rows w floor motors scale
    → Floored rows w floor others other
    → (motors ≡ others) × (scale ≡ other)
floored_determined rows w floor motors others scale other h k =
    (equal_determined motors others h.is k.is, equal_determined scale other h.scale_is k.scale_is)

-- the scale that comes with an answer, or that none does, tells the answers apart
scale_tells : (a b : FloorAnswer) → scale_answered a ≡ scale_answered b → a ≡ b
scale_tells (Ok s) (Ok t) e = cc
scale_tells (Err a) (Err b) e = refl
scale_tells (Ok s) (Err b) e = cc
scale_tells (Err a) (Ok t) e = cc

abbrev both_of : (n : ℕ) → List Float → Float → MotorsAndScale n
both_of n motors scale = record { motors = motors; scale = scale }

-- ---- the public functions

module _ (w : Wrench) (floor : Float) where
  -- the answer, and what the outputs are afterwards
  pub mix_determined : (run before : List Float) (a b : FloorAnswer) (after other : List Float)
      → RowsFloored run w floor before a after
      → RowsFloored run w floor before b other
      → (a ≡ b) × (after ≡ other)
  mix_determined run before a b after other h k = (
    scale_tells a b (equal_determined _ _ h.scale k.scale),
    equal_determined after other h.output k.output,
  )

  pub mix_hex_x_determined : Determined (λ (r : MotorsAndScale 6). Floored hex_rows w floor r.motors r.scale)
  mix_hex_x_determined r q h k =
      let same = floored_determined hex_rows w floor r.motors q.motors r.scale q.scale h k in
      ap₂ (both_of 6) same.0 same.1

  pub mix_octo_coax_determined : Determined (λ (r : MotorsAndScale 8). Floored octo_rows w floor r.motors r.scale)
  mix_octo_coax_determined r q h k =
      let same = floored_determined octo_rows w floor r.motors q.motors r.scale q.scale h k in
      ap₂ (both_of 8) same.0 same.1

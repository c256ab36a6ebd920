-- Each public contract determines its answer: two results that satisfy it are one, by bits. A contract of this crate
-- either says what the answer equals, or is `FrameMixed`, whose `is` does. Assumes nothing.
use mathlib.Core.Path.{◌≡◌}
use mathlib.Core.List.{List}
use Prim.Native.Nat.{ℕ}
use lib.Ieee.{Float}
use Rattle.rules.specs.Rows.{run_of, quad_x_rows}
use Rattle.rules.specs.Torque.{achieved}
use Rattle.general.proofs.Determined.{Determined, equal_determined}
use Rattle.frame.specs.declared.MixerN.{MixerN}
use Rattle.frame.specs.Mixer.{made, rows_in, FrameMixed}

-- ---- the public functions

module _ (matrix torque motors : List Float) (thrust : Float) (count : ℕ) (mixer : MixerN) where
  pub new_determined : Determined (λ r. r ≡ made matrix count)
  new_determined = equal_determined

  pub n_determined : Determined (λ r. r ≡ mixer.n)
  n_determined = equal_determined

  pub quad_x_determined : Determined (λ r. r ≡ made (run_of quad_x_rows) 4)
  quad_x_determined = equal_determined

  pub mix_determined : Determined (FrameMixed (rows_in mixer) torque thrust)
  mix_determined r q h k = equal_determined r q h.is k.is

  pub achieved_wrench_determined : Determined (λ r. r ≡ achieved (rows_in mixer) motors)
  achieved_wrench_determined = equal_determined

-- The promise of `fitting` can be met: three motors whose exact sums lie in 0.25..1, one in its middle, one at its end,
-- and one whose sum is no f32 and has to be rounded. Assumes nothing.
use mathlib.Core.Path.{◌≡◌}
use mathlib.Core.List.{List, [], ◌∷◌}
use Prim.Native.Nat.{ℕ, zero, suc}
use lib.Dec.{T}
use lib.ListN.{get_or}
use lib.Ieee.{Float, nan, binary32, fits, of_bits}
use lib.Ieee.Bits.{of_bits-fits}
use lib.Ieee.Fits.{nan-fits}
use Rattle.binary32.specs.Arithmetic.{1f}
use Rattle.binary32.specs.Whole.{negative, magnitude, over, under, whole_of}
use Rattle.binary32.specs.Range.{exact_sum, SumWithin}
use Rattle.fit.specs.Fit.{fit_scale, EachMotor}
use Rattle.fit.proofs.Fitting.{scale_fitting}

quarter : Float
quarter = of_bits binary32 0x3e80_0000

-- 0.5, 0.75 and 1 - 2 ^ -24
bases : List ℕ
bases = 0x3f00_0000 ∷ 0x3f40_0000 ∷ 0x3f7f_ffff ∷ []

-- 0.25, 0.25 and 2 ^ -26
deltas : List ℕ
deltas = 0x3e80_0000 ∷ 0x3e80_0000 ∷ 0x3280_0000 ∷ []

floats : List ℕ → List Float
floats [] = []
floats (b ∷ bs) = of_bits binary32 b ∷ floats bs

each_fits : (bs : List ℕ) (k : ℕ) → T (fits binary32 (get_or (floats bs) k nan))
unfolding floats
each_fits [] k = nan-fits binary32
each_fits (b ∷ bs) zero = of_bits-fits binary32 b
each_fits (b ∷ bs) (suc k) = each_fits bs k

they_fit : EachMotor (SumWithin quarter 1f) (floats bases) (floats deltas)
unfolding quarter bases deltas floats of_bits exact_sum whole_of over under negative magnitude
they_fit = (
  record { first = tt; second = tt; from = record { le = tt }; to = record { le = tt } },
  (
    record { first = tt; second = tt; from = record { le = tt }; to = record { le = tt } },
    (record { first = tt; second = tt; from = record { le = tt }; to = record { le = tt } }, tt),
  ),
)

scale_of_example : fit_scale quarter (floats bases) (floats deltas) ≡ 1f
unfolding quarter of_bits
scale_of_example =
    scale_fitting quarter (floats bases) (floats deltas)
    (record { fits = of_bits-fits binary32 0x3e80_0000; finite = tt }) (each_fits bases) (each_fits deltas) they_fit

-- The contract of `scale` determines its answer: two numbers that satisfy it are one, by bits. Assumes nothing.
use mathlib.Core.List.{List}
use lib.Ieee.{Float}
use Rattle.general.proofs.Determined.{Determined, equal_determined}
use Rattle.fit.specs.Fit.{Scaled}

pub scale_determined : {floor : Float} {bs ds : List Float} → Determined (Scaled floor bs ds)
scale_determined r q h k = equal_determined r q h.is k.is

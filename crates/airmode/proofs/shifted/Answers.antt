-- `airmode::shifted` meets its contract: each of the four numbers, shifted and clamped. Assumes nothing.
use mathlib.Core.Path.{◌≡◌}
use native.Mathlib.Omega.{arith}
use lib.ListN.{length}
use lib.Ieee.{Float}
use Rattle.std.proofs.Common.{rules}
use Rattle.rules.specs.Airmode.{shift, shifted}
use Rattle.rules.specs.Extremes.{least, largest}
use Rattle.binary32.specs.Arithmetic.{◌+f◌}
use Rattle.number.specs.Treat.{floor_clamp}
use Rattle.general.proofs.Mapped.{mapped}
use Rattle.airmode.proofs.shifted.Goals as goal

pub returns : goal.returns
unfolding shifted
returns c =
    let args = c.args in
    let idle = args.idle in
    let m = args.m in
    let length : length m ≡ 4 = omega arith in
    mapped _ _ (λ (x : Float). floor_clamp (x +f shift idle (least m) (largest m)) idle) 4 m _ length
    c.map.ensures.items (λ x y q k. search rules)

-- `airmode::unshifted` meets its contract: the thrust and each of the four deltas, scaled. Assumes nothing.
use mathlib.Core.Path.{◌≡◌}
use native.Mathlib.Omega.{arith}
use lib.ListN.{length}
use lib.Ieee.{Float}
use Rattle.std.proofs.Common.{rules}
use Rattle.rules.specs.Airmode.{spread, spread_scale, unshifted}
use Rattle.binary32.specs.Arithmetic.{◌+f◌, ◌*f◌}
use Rattle.general.proofs.Mapped.{mapped}
use Rattle.airmode.proofs.unshifted.Goals as goal

pub returns : goal.returns
unfolding unshifted
returns c =
    let args = c.args in
    let d = args.d in
    let length : length d ≡ 4 = omega arith in
    mapped _ _ (λ (x : Float). args.t +f x *f spread_scale args.idle (spread d)) 4 d _ length c.map.ensures.items
    (λ x y q k. search rules)

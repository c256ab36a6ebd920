-- `priority::yaw_scale` meets its contract: the bases are the collective and the four roll/pitch groups. Assumes
-- nothing.
use mathlib.Core.Path.{◌≡◌, ap, ◌∙◌}
use mathlib.Core.List.{List}
use native.Mathlib.Omega.{arith}
use lib.ListN.{length}
use lib.Ieee.{Float}
use Rattle.std.proofs.Common.{rules}
use Rattle.binary32.specs.Arithmetic.{◌+f◌}
use Rattle.fit.specs.Fit.{fit_scale}
use Rattle.general.proofs.Mapped.{mapped}
use Rattle.rules.specs.Priority.{yaw_scale}
use Rattle.priority.proofs.yaw_scale.Goals as goal

pub returns : goal.returns
unfolding yaw_scale
returns c =
    let args = c.args in
    let length : length args.drp ≡ 4 = omega arith in
    c.scale.ensures.is
    ∙ ap (λ (bases : List Float). fit_scale args.floor bases args.dy)
    (mapped _ _ (λ (rp : Float). args.base +f rp) 4 args.drp _ length c.map-base_rp.ensures.items
    (λ x z q k. search rules))

-- `priority::roll_pitch_scale` meets its contract: the bases are the collective and the four scaled yaw groups. Assumes
-- nothing.
use mathlib.Core.Path.{◌≡◌, ap, ◌∙◌}
use mathlib.Core.List.{List}
use native.Mathlib.Omega.{arith}
use lib.ListN.{length}
use lib.Ieee.{Float}
use Rattle.std.proofs.Common.{rules}
use Rattle.binary32.specs.Arithmetic.{◌+f◌, ◌*f◌}
use Rattle.fit.specs.Fit.{fit_scale}
use Rattle.general.proofs.Mapped.{mapped}
use Rattle.rules.specs.Priority.{roll_pitch_scale}
use Rattle.priority.proofs.roll_pitch_scale.Goals as goal

pub returns : goal.returns
unfolding roll_pitch_scale
returns c =
    let args = c.args in
    let length : length args.dy ≡ 4 = omega arith in
    c.scale.ensures.is
    ∙ ap (λ (bases : List Float). fit_scale args.floor bases args.drp)
    (mapped _ _ (λ (y : Float). args.base +f args.sy *f y) 4 args.dy _ length c.map-base_y.ensures.items
    (λ x z q k. search rules))

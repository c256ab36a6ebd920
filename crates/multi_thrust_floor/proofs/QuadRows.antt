-- "With the quad's four rows it agrees with the quad by bits" (document 02, K6): the motors are those that the quad's
-- thrust-floor stores, and the scale is the one that it records, from whatever state. Assumes nothing.
use mathlib.Core.Path.{◌≡◌, refl, sym, ap, ◌∙◌}
use mathlib.Core.Bool.{false}
use mathlib.Core.List.{List, [], ◌∷◌}
use lib.ListN.{length}
use lib.Ieee.{Float}
use Rattle.rules.specs.Rows.{run_of, quad_rows}
use Rattle.rules.specs.Multi.{rows_refused}
use Rattle.rules.proofs.Rows.{quad_rows_lem}
use Rattle.multi.specs.declared.Wrench.{Wrench}
use Rattle.quad.specs.declared.QuadMixer.{QuadMixer}
use Rattle.quad.specs.Mixes.{ThrustFloorGives}
use Rattle.multi_thrust_floor.specs.Floored.{FloorAnswer, wrench_torque, scale_answered, RowsFloored}

-- four rows for four outputs are accepted
four_accepted : rows_refused (length (run_of quad_rows)) 4 ≡ false
unfolding rows_refused run_of quad_rows
four_accepted = refl

pub quad_agrees : (w : Wrench) (floor : Float) (before after : List Float) (answer : FloorAnswer) (q given : QuadMixer)
    → RowsFloored (run_of quad_rows) w floor before answer after
    → length before ≡ 4
    → ThrustFloorGives q (wrench_torque w) w.thrust floor given
    → (after ≡ given.last_motors) × (scale_answered answer ≡ given.last_torque_scale ∷ [])
quad_agrees w floor before after answer q given h four k = (
  h.output ∙ rw (accepted_four, quad_rows_lem) (sym (ap (λ (x : QuadMixer). x.last_motors) k.is)),
  h.scale ∙ rw (accepted_four, quad_rows_lem) (sym (ap (λ (x : QuadMixer). x.last_torque_scale ∷ []) k.is)),
)
  where
    accepted_four : rows_refused (length (run_of quad_rows)) (length before) ≡ false
    accepted_four = rw four four_accepted

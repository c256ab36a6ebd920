-- What the functions answer, put together: the promises are one law about the rule, over any rows, so they hold of
-- whatever the rule gives. Assumes nothing.
use mathlib.Core.Path.{◌≡◌, ap, ◌∙◌}
use mathlib.Core.Bool.{true, false}
use mathlib.Core.List.{List, [], ◌∷◌}
use lib.Dec.{T}
use lib.ListN.{length}
use lib.Ieee.{Float, binary32, fits}
use Rattle.number.proofs.Choice.{left}
use Rattle.rules.specs.Rows.{Row, rows_of}
use Rattle.rules.specs.Command.{deltas}
use Rattle.rules.specs.Multi.{rows_refused}
use Rattle.refusals.specs.Numbers.{accepted, bad_rows}
use Rattle.rules.specs.ThrustFloor.{thrust_floor_scale, thrust_floor_motors}
use Rattle.rules.proofs.Keeps.{thrust_floor_keeps}
use Rattle.multi.specs.declared.Wrench.{Wrench}
use Rattle.std.specs.Prelude.{Ok}
use Rattle.multi_thrust_floor.specs.Floored.{wrench_torque, floored_motors, floored_scale, Floored, RowsFloored}
use Rattle.multi_thrust_floor.specs.Granted.{Granted}

module _ {w : Wrench} {floor : Float} {motors : List Float} {scale : Float} where
  -- thrust and floor are f32s
  floored : {rows : List Row} → T (fits binary32 w.thrust) → T (fits binary32 floor)
      → motors ≡ floored_motors rows w floor
      → scale ≡ floored_scale rows w floor
      → Floored rows w floor motors scale
  floored {rows} ft ff is scale_is = record {
    is = is;
    scale_is = scale_is;
    keeps = rw (is, scale_is) (thrust_floor_keeps rows (wrench_torque w) w.thrust floor ft ff);
  }

  -- what the two steps find: the deltas, and what is granted of them
  pub floored_by_steps : {rows : List Row} {ds : List Float} → fits binary32 w.thrust ≡ true
      → fits binary32 floor ≡ true
      → ds ≡ deltas rows (wrench_torque w)
      → Granted w.thrust floor ds motors scale
      → Floored rows w floor motors scale
  unfolding thrust_floor_scale thrust_floor_motors
  floored_by_steps ft ff asked granted =
      floored (rw ft tt) (rw ff tt) (granted.is ∙ rw asked) (granted.scale_is ∙ rw asked)

-- of one scale there is one
one_scale_lem : {s t : Float} → s ∷ [] ≡ t ∷ [] → s ≡ t
one_scale_lem e = cc

module _ {run : List Float} {w : Wrench} {floor : Float} {before : List Float} where
  pub answer_mixed : {after : List Float} {s : Float} → rows_refused (length run) (length before) ≡ false
      → Floored (rows_of run) w floor after s
      → RowsFloored run w floor before (Ok s) after
  answer_mixed e h = record {
    number = left bad_rows accepted e;
    scale = ap (λ (s : Float). s ∷ []) h.scale_is ∙ left [] _ e;
    output = h.is ∙ left before _ e;
    keeps = λ s same. rw (one_scale_lem same) at h.keeps;
  }

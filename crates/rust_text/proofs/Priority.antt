-- The Rust's `mix_priority` is document 01's priority. Assumes nothing.
use mathlib.Core.Path.{◌≡◌, refl, ap, ◌∙◌}
use mathlib.Core.List.{List, [], ◌∷◌, map}
use lib.ListN.{length, length-map}
use lib.Ieee.{Float}
use Rattle.binary32.specs.Arithmetic.{◌+f◌, ◌*f◌}
use Rattle.number.specs.Treat.{limited}
use Rattle.fit.specs.Fit.{fit_scale}
use Rattle.rules.specs.Rows.{Row, quad_rows}
use Rattle.rules.specs.Command.{roll, pitch, yaw, lifted, collective}
use Rattle.rules.specs.Priority.{yaw_group, roll_pitch_group, yaw_scale, roll_pitch_scale, priority_motor}
use Rattle.rules.specs.Priority.{priority_motors}
use Rattle.rust_text.specs.Forms.{◌!◌}
use Rattle.rust_text.specs.Fit.{scale_to_fit}
use Rattle.rust_text.specs.State.{Quad, MIXER_X, answered, store_motors}
use Rattle.rust_text.specs.Priority.{groups, yaw_fit, roll_pitch_fit, two_sums, mix_priority}
use Rattle.rust_text.proofs.Numbers.{sanitise_is, limited_is, clamp_floor_is}
use Rattle.rust_text.proofs.Loops.{by_places}
use Rattle.rust_text.proofs.Fit.{scale_to_fit_is}

groups_are : (r p y : Float) → groups r p y ≡ (map (yaw_group y) quad_rows, map (roll_pitch_group r p) quad_rows)
unfolding groups yaw_group roll_pitch_group quad_rows MIXER_X
groups_are r p y = simp sanitise_is

-- a scale's bases are sums, one for each of four
pub bases_fit : (h : Float → Float) (floor : Float) (xs ds : List Float) → length xs ≡ 4 → length ds ≡ 4
    → scale_to_fit (h (xs ! 0) ∷ h (xs ! 1) ∷ h (xs ! 2) ∷ h (xs ! 3) ∷ []) ds floor ≡ fit_scale floor (map h xs) ds
bases_fit h floor xs ds hx hd =
    ap (λ (bs : List Float). scale_to_fit bs ds floor) (by_places h xs hx)
    ∙ scale_to_fit_is (map h xs) ds floor (length-map xs h ∙ hx) hd

module _ (base floor : Float) (rp y : Row → Float) where
  abbrev rps : List Float
  rps = map rp quad_rows

  abbrev ys : List Float
  ys = map y quad_rows

  four_of : (g : Row → Float) → length (map g quad_rows) ≡ 4
  unfolding quad_rows
  four_of g = refl

  yaw_fit_is : yaw_fit base floor rps ys ≡ yaw_scale floor base rps ys
  unfolding yaw_fit yaw_scale
  yaw_fit_is = bases_fit (λ x. base +f x) floor rps ys (four_of rp) (four_of y)

  roll_pitch_fit_is : (sy : Float) → roll_pitch_fit base floor sy rps ys ≡ roll_pitch_scale floor base sy rps ys
  unfolding roll_pitch_fit roll_pitch_scale
  roll_pitch_fit_is sy = bases_fit (λ x. base +f sy *f x) floor ys rps (four_of y) (four_of rp)

  two_sums_are : (srp sy : Float)
      → two_sums base floor srp sy rps ys ≡ map (λ row. priority_motor floor base srp sy (rp row) (y row)) quad_rows
  unfolding two_sums priority_motor quad_rows
  two_sums_are srp sy = simp clamp_floor_is

pub mix_priority_is : (self : Quad) (torque : List Float) (thrust floor : Float)
    → mix_priority self torque thrust floor
    ≡ answered (store_motors self (priority_motors quad_rows torque thrust floor))
unfolding mix_priority priority_motors lifted
mix_priority_is self torque thrust floor =
    let low = limited floor in
    let base = collective thrust floor in
    let rp = roll_pitch_group (roll torque) (pitch torque) in
    let y = yaw_group (yaw torque) in
    rw (
      limited_is thrust,
      limited_is floor,
      sanitise_is (torque ! 0),
      sanitise_is (torque ! 1),
      sanitise_is (torque ! 2),
      groups_are (roll torque) (pitch torque) (yaw torque),
      yaw_fit_is base low rp y,
      roll_pitch_fit_is base low rp y,
      two_sums_are base low rp y,
    )

-- The Rust's `motors_to_torque_signs` is document 01's, of four motors. Assumes nothing.
use mathlib.Core.Path.{◌≡◌, sym, ap}
use mathlib.Core.List.{List}
use lib.ListN.{length}
use lib.Ieee.{Float}
use Rattle.general.proofs.Four.{four}
use Rattle.rules.specs.Rows.{quad_rows}
use Rattle.rules.specs.Torque.{summed, torque_of}
use Rattle.rust_text.specs.State.{MIXER_X}
use Rattle.rust_text.specs.Torque.{motors_to_torque_signs}

pub torque_signs_are : (motors : List Float) → length motors ≡ 4
    → motors_to_torque_signs motors ≡ torque_of quad_rows motors
unfolding motors_to_torque_signs torque_of summed quad_rows MIXER_X
torque_signs_are motors h = ap (λ (m : List Float). torque_of quad_rows m) (sym (four motors h))

-- The Rust's `motors_to_torque_signs`. Follows relay-mix-quad (document 000), Apache-2.0, see NOTICE; changed: written
-- as definitions. Definitions only.
use Rattle.std.specs.Prelude.{List, set, replicate, Float}
use Rattle.binary32.specs.Arithmetic.{◌+f◌, ◌*f◌, 0f}
use Rattle.rust_text.specs.Forms.{◌!◌, ◌!!◌, for_up_to}
use Rattle.rust_text.specs.State.{MIXER_X}

-- 000:606: pub fn motors_to_torque_signs(motors: [f32; 4]) -> [f32; 3] {
unfoldable pub motors_to_torque_signs : List Float → List Float
motors_to_torque_signs motors =
    -- 000:607:     let mut t = [0.0_f32; 3];
    let t = replicate 3 0f in
    -- 000:608:     for i in 0..4 {
    for_up_to 4 (λ i t.
    -- 000:609:         t[0] += MIXER_X[i][1] * motors[i];
    let t = set t 0 (t ! 0 +f MIXER_X !! i ! 1 *f motors ! i) in
    -- 000:610:         t[1] += MIXER_X[i][2] * motors[i];
    let t = set t 1 (t ! 1 +f MIXER_X !! i ! 2 *f motors ! i) in
    -- 000:611:         t[2] += MIXER_X[i][3] * motors[i];
    set t 2 (t ! 2 +f MIXER_X !! i ! 3 *f motors ! i)) t
    -- 000:613:     t

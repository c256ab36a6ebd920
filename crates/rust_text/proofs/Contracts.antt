-- Every public function that the Rust has too gives what the Rust's text gives: whatever satisfies our contract is the
-- Rust's answer, by bits, for every f32 and every number. A method of the quad leaves the state that the Rust's leaves,
-- and the motors in it are those that the Rust's returns. Arrays have the Rust's lengths. What C calls, the crate
-- `exported`, has the same statements in its contracts, of what is lent as it stood before and after, so that each of
-- these applies to it as it stands. Assumes nothing.
use mathlib.Core.Path.{◌≡◌, sym, ap, ◌∙◌}
use mathlib.Core.Bool.{false}
use mathlib.Core.List.{List}
use Prim.Native.Nat.{ℕ}
use lib.Dec.{T}
use lib.ListN.{length}
use lib.Ieee.{Float, binary32, fits}
use Rattle.number.specs.Treat.{unit_clamp}
use Rattle.rules.specs.Rows.{Row, rows_of, run_of, quad_rows, quad_x_rows, hex_rows, octo_rows}
use Rattle.rules.specs.Torque.{torque_of, achieved}
use Rattle.rules.specs.Multi.{rows_refused}
use Rattle.rules.proofs.Rows.{quad_x_rows_lem, hex_rows_lem, octo_rows_lem}
use Rattle.rules.proofs.Runs.{rows_count}
use Rattle.quad.specs.declared.QuadMixer.{QuadMixer}
use Rattle.quad.specs.State.{fresh}
use Rattle.quad.specs.Mixes.{PlainGives, ThrustFloorGives, PriorityGives, AirmodeGives, RotorOutGives}
use Rattle.frame.specs.declared.MixerN.{MixerN}
use Rattle.frame.specs.Mixer.{made, rows_in, FrameMixed}
use Rattle.multi.specs.declared.Wrench.{Wrench}
use Rattle.multi.specs.Wrench.{MixAnswer, Allocated, RowsMixed}
use Rattle.rust_text.specs.Numbers.{clamp01_of001}
use Rattle.rust_text.specs.State.{Quad, Method, answered, new, last_motors, last_torque_scale}
use Rattle.rust_text.specs.Plain.{mix}
use Rattle.rust_text.specs.ThrustFloor.{mix_thrust_floor}
use Rattle.rust_text.specs.Priority.{mix_priority}
use Rattle.rust_text.specs.Airmode.{mix_airmode}
use Rattle.rust_text.specs.RotorOut.{mix_rotor_out}
use Rattle.rust_text.specs.Torque.{motors_to_torque_signs}
use Rattle.rust_text.specs.MixerN.{Mixer, new_n, count_of, quad_x, mix_n, achieved_wrench}
use Rattle.rust_text.specs.Multi.{WrenchM, mix_m, hex_x, octo_coax}
use Rattle.rust_text.proofs.Numbers.{clamp01_of_001_is}
use Rattle.rust_text.proofs.Plain.{mix_is}
use Rattle.rust_text.proofs.ThrustFloor.{mix_thrust_floor_is}
use Rattle.rust_text.proofs.Priority.{mix_priority_is}
use Rattle.rust_text.proofs.Airmode.{mix_airmode_is}
use Rattle.rust_text.proofs.RotorOut.{mix_rotor_out_is}
use Rattle.rust_text.proofs.Torque.{torque_signs_are}
use Rattle.rust_text.proofs.MixerN.{new_is, quad_x_is, mix_n_is, achieved_wrench_is}
use Rattle.rust_text.proofs.Multi.{mix_of_001_is, hex_x_is, octo_coax_is}

-- ---- 000: QuadMixer

-- our state as the Rust has it
abbrev pub quad_of : QuadMixer → Quad
quad_of q = record { last_motors = q.last_motors; last_torque_scale = q.last_torque_scale }

pub quad_new : {r : QuadMixer} → r ≡ fresh → quad_of r ≡ new
unfolding new
quad_new e = ap quad_of e

pub quad_last_motors : (self : QuadMixer) {r : List Float} → r ≡ self.last_motors → r ≡ last_motors (quad_of self)
unfolding last_motors
quad_last_motors self e = e

pub quad_last_torque_scale : (self : QuadMixer) {r : Float} → r ≡ self.last_torque_scale
    → r ≡ last_torque_scale (quad_of self)
unfolding last_torque_scale
quad_last_torque_scale self e = e

-- the state that a mix leaves, and the motors in it
abbrev left : QuadMixer → Method
left q = answered (quad_of q)

module _ (self : QuadMixer) (torque : List Float) (thrust floor : Float) {q : QuadMixer} where
  pub quad_mix : PlainGives self torque thrust q → left q ≡ mix (quad_of self) torque thrust
  quad_mix g = ap left g.is ∙ sym (mix_is (quad_of self) torque thrust)

  pub quad_mix_thrust_floor : ThrustFloorGives self torque thrust floor q
      → left q ≡ mix_thrust_floor (quad_of self) torque thrust floor
  quad_mix_thrust_floor g = ap left g.is ∙ sym (mix_thrust_floor_is (quad_of self) torque thrust floor)

  pub quad_mix_priority : PriorityGives self torque thrust floor q
      → left q ≡ mix_priority (quad_of self) torque thrust floor
  quad_mix_priority g = ap left g.is ∙ sym (mix_priority_is (quad_of self) torque thrust floor)

  pub quad_mix_airmode : T (fits binary32 floor) → AirmodeGives self torque thrust floor q
      → left q ≡ mix_airmode (quad_of self) torque thrust floor
  quad_mix_airmode h g = ap left g.is ∙ sym (mix_airmode_is (quad_of self) torque thrust floor h)

  pub quad_mix_rotor_out : (failed : ℕ) → RotorOutGives self failed torque thrust floor q
      → left q ≡ mix_rotor_out (quad_of self) failed torque thrust floor
  quad_mix_rotor_out failed g = ap left g.is ∙ sym (mix_rotor_out_is (quad_of self) failed torque thrust floor)

pub motors_to_torque_signs_lem : (motors : List Float) → length motors ≡ 4 → {r : List Float} → r
    ≡ torque_of quad_rows motors
    → r ≡ motors_to_torque_signs motors
motors_to_torque_signs_lem motors h e = e ∙ sym (torque_signs_are motors h)

-- ---- 000: MixerN

-- our mixer as the Rust has it: the run of 32 floats is eight rows
abbrev pub frame_of : MixerN → Mixer
frame_of m = record { rows = rows_in m; count = m.n }

pub frame_new : (run : List Float) (n : ℕ) {r : MixerN} → r ≡ made run n → frame_of r ≡ new_n (rows_of run) n
frame_new run n e = ap frame_of e ∙ sym (new_is (rows_of run) n)

pub frame_n : (self : MixerN) {r : ℕ} → r ≡ self.n → r ≡ count_of (frame_of self)
unfolding count_of
frame_n self e = e

pub frame_quad_x : {r : MixerN} → r ≡ made (run_of quad_x_rows) 4 → frame_of r ≡ quad_x
frame_quad_x e =
    ap frame_of e ∙ ap (λ (rows : List Row). record { rows = rows; count = 4 }) quad_x_rows_lem ∙ sym quad_x_is

pub frame_mix : (self : MixerN) (torque : List Float) (thrust : Float) → length self.mix ≡ 32 → {m : List Float}
    → FrameMixed (rows_in self) torque thrust m → m ≡ mix_n (frame_of self) torque thrust
frame_mix self torque thrust h g =
    g.is ∙ sym (mix_n_is (frame_of self) torque thrust (rows_count 8 self.mix h))

pub frame_achieved_wrench : (self : MixerN) (motors : List Float) {w : List Float} → w ≡ achieved (rows_in self) motors
    → w ≡ achieved_wrench (frame_of self) motors
frame_achieved_wrench self motors e = e ∙ sym (achieved_wrench_is (frame_of self) motors)

-- ---- 001

-- our wrench as the Rust has it
abbrev pub wrench_of : Wrench → WrenchM
wrench_of w = record { thrust = w.thrust; roll = w.roll; pitch = w.pitch; yaw = w.yaw }

pub multi_clamp01 : (x : Float) {r : Float} → r ≡ unit_clamp x → r ≡ clamp01_of001 x
multi_clamp01 x e = e ∙ sym (clamp01_of_001_is x)

-- of a run that is not refused the outputs are the Rust's for its rows
pub multi_mix : (run : List Float) (w : Wrench) (before : List Float) (answer : MixAnswer) (after : List Float)
    → rows_refused (length run) (length before) ≡ false
    → RowsMixed run w before answer after → after ≡ mix_m (rows_of run) (wrench_of w)
multi_mix run w before answer after h g = g.output ∙ rw h (sym (mix_of_001_is (rows_of run) (wrench_of w)))

pub multi_hex_x : {r : List Float} → r ≡ run_of hex_rows → rows_of r ≡ hex_x
multi_hex_x e = ap rows_of e ∙ hex_rows_lem ∙ sym hex_x_is

pub multi_octo_coax : {r : List Float} → r ≡ run_of octo_rows → rows_of r ≡ octo_coax
multi_octo_coax e = ap rows_of e ∙ octo_rows_lem ∙ sym octo_coax_is

pub multi_mix_hex_x : (w : Wrench) {m : List Float} → Allocated hex_rows w m → m ≡ mix_m hex_x (wrench_of w)
multi_mix_hex_x w g = g.is ∙ sym (rw hex_x_is (mix_of_001_is hex_rows (wrench_of w)))

pub multi_mix_octo_coax : (w : Wrench) {m : List Float} → Allocated octo_rows w m → m ≡ mix_m octo_coax (wrench_of w)
multi_mix_octo_coax w g = g.is ∙ sym (rw octo_coax_is (mix_of_001_is octo_rows (wrench_of w)))

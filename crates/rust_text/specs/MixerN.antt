-- The Rust's `MixerN`, without `from_geometry` and `hexa_x`. Follows relay-mix-quad (document 000), Apache-2.0, see
-- NOTICE; changed: written as definitions. Definitions only.
use Rattle.std.specs.Prelude.{List, map, ℕ, ltb, set, replicate, Float, if◌then◌else◌}
use Rattle.binary32.specs.Arithmetic.{◌+f◌, ◌*f◌, 0f}
use Rattle.rust_text.specs.Forms.{◌!◌, ◌!!◌, for_up_to, for_each, zip_into, zip}
use Rattle.rust_text.specs.Numbers.{sanitise, clamp01}
use Rattle.rust_text.specs.State.{MIXER_X}
use Rattle.rust_text.specs.Plain.{excess_taken}

-- 000:617: pub const MAX_ROTORS: usize = 8;
abbrev pub MAX_ROTORS : ℕ
MAX_ROTORS = 8

-- 000:631: pub struct MixerN {
-- 000:632:     mix: [[f32; 4]; MAX_ROTORS],
-- 000:633:     n: usize,
pub record Mixer : Type 0 where
  pub rows : List (List Float)
  pub count : ℕ

-- 000:636: impl MixerN {
-- 000:638:     pub const fn new(mix: [[f32; 4]; MAX_ROTORS], n: usize) -> Self {
unfoldable pub new_n : List (List Float) → ℕ → Mixer
new_n rows n =
    -- 000:639:         let n = if n > MAX_ROTORS { MAX_ROTORS } else { n };
    let n = if ltb MAX_ROTORS n then MAX_ROTORS else n in
    -- 000:640:         MixerN { mix, n }
    record { rows = rows; count = n }

-- 000:644:     pub fn n(&self) -> usize {
-- 000:645:         self.n
unfoldable pub count_of : Mixer → ℕ
count_of self = self.count

-- 000:650:     pub fn quad_x() -> Self {
unfoldable pub quad_x : Mixer
quad_x =
    -- 000:651:         let mut mix = [[0.0_f32; 4]; MAX_ROTORS];
    let rows = replicate MAX_ROTORS (replicate 4 0f) in
    -- 000:652:         let mut i = 0;
    -- 000:653:         while i < 4 {
    -- 000:654:             mix[i] = MIXER_X[i];
    -- 000:655:             i += 1;
    let rows = for_up_to 4 (λ i rows. set rows i (MIXER_X !! i)) rows in
    -- 000:657:         MixerN { mix, n: 4 }
    record { rows = rows; count = 4 }

-- 000:715:     pub fn mix(&self, torque_body: [f32; 3], thrust: f32) -> [f32; MAX_ROTORS] {
unfoldable pub mix_n : Mixer → List Float → Float → List Float
mix_n self torque_body thrust =
    -- 000:716:         let t = sanitise(thrust);
    let t = sanitise thrust in
    -- 000:717:         let r = sanitise(torque_body[0]);
    let r = sanitise (torque_body ! 0) in
    -- 000:718:         let p = sanitise(torque_body[1]);
    let p = sanitise (torque_body ! 1) in
    -- 000:719:         let y = sanitise(torque_body[2]);
    let y = sanitise (torque_body ! 2) in
    -- 000:721:         let mut m = [0.0_f32; MAX_ROTORS];
    let m = replicate MAX_ROTORS 0f in
    -- 000:722:         for (mi, row) in m.iter_mut().zip(self.mix.iter()) {
    let m = zip_into (λ mi row.
    -- 000:723:             *mi = sanitise(row[0] * t + row[1] * r + row[2] * p + row[3] * y);
    sanitise (row ! 0 *f t +f row ! 1 *f r +f row ! 2 *f p +f row ! 3 *f y)) m self.rows in
    -- 728 to 737, which are 153 to 162 of `mix`
    let m = excess_taken m in
    -- 000:742:         for v in m.iter_mut() {
    -- 000:743:             *v = clamp01(*v);
    -- 000:745:         m
    map (λ v. clamp01 v) m

-- 000:753:     pub fn achieved_wrench(&self, motors: &[f32; MAX_ROTORS]) -> [f32; 4] {
unfoldable pub achieved_wrench : Mixer → List Float → List Float
achieved_wrench self motors =
    -- 000:754:         let mut w = [0.0_f32; 4];
    let w = replicate 4 0f in
    -- 000:755:         for (row, &mi) in self.mix.iter().zip(motors.iter()) {
    for_each (zip self.rows motors) (λ pair w.
    let row = pair.0 in
    -- 000:756:             let mi = sanitise(mi);
    let mi = sanitise pair.1 in
    -- 000:757:             for k in 0..4 {
    -- 000:758:                 w[k] += row[k] * mi;
    for_up_to 4 (λ k w. set w k (w ! k +f row ! k *f mi)) w) w
    -- 000:761:         w

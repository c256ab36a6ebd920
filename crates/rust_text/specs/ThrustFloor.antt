-- The Rust's `QuadMixer::mix_thrust_floor`, a step a definition: it has a walk of its own for the scale. Follows
-- relay-mix-quad (document 000), Apache-2.0, see NOTICE; changed: written as definitions. Definitions only.
use Rattle.std.specs.Prelude.{not, ◌||◌, List, set, replicate, Float, if◌then◌else◌}
use Rattle.std.specs.Float.Ieee.{neg}
use Rattle.std.specs.Float.Ieee.Scale.{finite}
use Rattle.binary32.specs.Arithmetic.{◌+f◌, ◌-f◌, ◌*f◌, ◌/f◌, 0f, 1f, small}
use Rattle.rust_text.specs.Forms.{◌<f◌, ◌>f◌, ◌!◌, ◌!!◌, for_up_to, for_each}
use Rattle.rust_text.specs.Numbers.{sanitise, clamp01, clamp_floor}
use Rattle.rust_text.specs.State.{Quad, MIXER_X, Method, store_motors, store_scale}

-- the torque's share of each motor; `mix_airmode` has it word for word
unfoldable pub torque_deltas : Float → Float → Float → List Float
torque_deltas r p y =
    -- 000:219,339:         let mut d = [0.0_f32; 4];
    let d = replicate 4 0f in
    -- 000:220,340:         for i in 0..4 {
    for_up_to 4 (λ i d.
    -- 000:221,341:             let row = &MIXER_X[i];
    let row = MIXER_X !! i in
    -- 000:222,342:             d[i] = sanitise(row[1] * r + row[2] * p + row[3] * y);
    set d i (sanitise (row ! 1 *f r +f row ! 2 *f p +f row ! 3 *f y))) d

unfoldable pub torque_scale : Float → Float → List Float → Float
torque_scale base floor d =
    -- 000:228:         const EPS: f32 = 1.0e-6;
    let EPS = small in
    -- 000:229:         let mut s = 1.0_f32;
    let s = 1f in
    -- 000:230:         for &di in &d {
    let s = for_each d (λ di s.
    -- 000:231:             if di > EPS {
    if di >f EPS then
    -- 000:232:                 let lim = (1.0 - base) / di;
    (let lim = (1f -f base) /f di in
    -- 000:233:                 if lim < s {
    -- 000:234:                     s = lim;
    if lim <f s then lim else s)
    -- 000:236:             } else if di < -EPS {
    else if di <f neg EPS then
    -- 000:237:                 let lim = (base - floor) / (-di);
    (let lim = (base -f floor) /f neg di in
    -- 000:238:                 if lim < s {
    -- 000:239:                     s = lim;
    if lim <f s then lim else s)
    else s) s in
    -- 000:243:         if s < 0.0 || !s.is_finite() {
    -- 000:244:             s = 0.0;
    if s <f 0f || not (finite s) then 0f else s

unfoldable pub scaled_over : Float → Float → Float → List Float → List Float
scaled_over base floor s d =
    -- 000:247:         let mut m = [0.0_f32; 4];
    let m = replicate 4 0f in
    -- 000:248:         for i in 0..4 {
    -- 000:254:             m[i] = clamp_floor(base + s * d[i], floor);
    for_up_to 4 (λ i m. set m i (clamp_floor (base +f s *f d ! i) floor)) m

-- 000:201:     pub fn mix_thrust_floor(&mut self, torque_body: [f32; 3], thrust: f32, floor: f32) -> [f32; 4] {
unfoldable pub mix_thrust_floor : Quad → List Float → Float → Float → Method
mix_thrust_floor self torque_body thrust floor =
    -- 000:202:         let t = clamp01(sanitise(thrust));
    let t = clamp01 (sanitise thrust) in
    -- 000:203:         let floor = clamp01(sanitise(floor));
    let floor = clamp01 (sanitise floor) in
    -- 000:208:         let base = if t < floor { floor } else { t };
    let base = if t <f floor then floor else t in
    -- 000:209:         let r = sanitise(torque_body[0]);
    let r = sanitise (torque_body ! 0) in
    -- 000:210:         let p = sanitise(torque_body[1]);
    let p = sanitise (torque_body ! 1) in
    -- 000:211:         let y = sanitise(torque_body[2]);
    let y = sanitise (torque_body ! 2) in
    -- 219 to 254, in order
    let d = torque_deltas r p y in
    let s = torque_scale base floor d in
    let m = scaled_over base floor s d in
    -- 000:256:         self.last_motors = m;
    let self = store_motors self m in
    -- 000:257:         self.last_torque_scale = s;
    let self = store_scale self s in
    -- 000:258:         m
    (self, m)

-- The Rust's `QuadMixer::mix`, a step a definition. Follows relay-mix-quad (document 000), Apache-2.0, see NOTICE;
-- changed: written as definitions. `MixerN::mix` has its two middle steps word for word. Definitions only.
use Rattle.std.specs.Prelude.{not, ◌||◌, List, map, set, drop, replicate, Float, if◌then◌else◌}
use Rattle.std.specs.Float.Ieee.Scale.{finite}
use Rattle.binary32.specs.Arithmetic.{◌+f◌, ◌-f◌, ◌*f◌, 0f, 1f}
use Rattle.rust_text.specs.Forms.{◌<f◌, ◌>f◌, ◌!◌, ◌!!◌, for_up_to, for_each}
use Rattle.rust_text.specs.Numbers.{sanitise}
use Rattle.rust_text.specs.State.{Quad, MIXER_X, Method, store_motors}

unfoldable pub sums : Float → Float → Float → Float → List Float
sums t r p y =
    -- 000:144:         let mut m = [0.0_f32; 4];
    let m = replicate 4 0f in
    -- 000:145:         for i in 0..4 {
    for_up_to 4 (λ i m.
    -- 000:146:             let row = &MIXER_X[i];
    let row = MIXER_X !! i in
    -- 000:147:             m[i] = row[0] * t + row[1] * r + row[2] * p + row[3] * y;
    set m i (row ! 0 *f t +f row ! 1 *f r +f row ! 2 *f p +f row ! 3 *f y)) m

unfoldable pub largest_of : List Float → Float
largest_of m =
    -- 000:153,728:         let mut max = m[0];
    let max = m ! 0 in
    -- 000:154,729:         for &v in &m[1..] {
    -- 000:155,730:             if v > max {
    -- 000:156,731:                 max = v;
    for_each (drop 1 m) (λ v max. if v >f max then v else max) max

unfoldable pub excess_taken : List Float → List Float
excess_taken m =
    let max = largest_of m in
    -- 000:159,734:         if max > 1.0 {
    if max >f 1f then
    -- 000:160,735:             let excess = max - 1.0;
    (let excess = max -f 1f in
    -- 000:161,736:             for v in m.iter_mut() {
    -- 000:162,737:                 *v -= excess;
    map (λ v. v -f excess) m)
    else m

unfoldable pub clipped : List Float → List Float
clipped m =
    -- 000:168:         for v in m.iter_mut() {
    map (λ v.
    -- 000:169:             if *v < 0.0 || !v.is_finite() {
    if v <f 0f || not (finite v)
    -- 000:170:                 *v = 0.0;
    then 0f
    -- 000:171:             } else if *v > 1.0 {
    else if v >f 1f
    -- 000:172:                 *v = 1.0;
    then 1f
    else v) m

-- 000:138:     pub fn mix(&mut self, torque_body: [f32; 3], thrust: f32) -> [f32; 4] {
unfoldable pub mix : Quad → List Float → Float → Method
mix self torque_body thrust =
    -- 000:139:         let t = sanitise(thrust);
    let t = sanitise thrust in
    -- 000:140:         let r = sanitise(torque_body[0]);
    let r = sanitise (torque_body ! 0) in
    -- 000:141:         let p = sanitise(torque_body[1]);
    let p = sanitise (torque_body ! 1) in
    -- 000:142:         let y = sanitise(torque_body[2]);
    let y = sanitise (torque_body ! 2) in
    -- 144 to 172, in order
    let m = clipped (excess_taken (sums t r p y)) in
    -- 000:175:         self.last_motors = m;
    -- 000:176:         m
    (store_motors self m, m)

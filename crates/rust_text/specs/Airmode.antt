-- The Rust's `QuadMixer::mix_airmode`, a step a definition, with the tests that document 01's rule has not. Follows
-- relay-mix-quad (document 000), Apache-2.0, see NOTICE; changed: written as definitions. Definitions only.
use Rattle.std.specs.Prelude.{not, ◌&&◌, ◌||◌, List, [], ◌∷◌, map, drop, Float, if◌then◌else◌}
use Rattle.std.specs.Float.Ieee.{neg}
use Rattle.std.specs.Float.Ieee.Scale.{finite}
use Rattle.binary32.specs.Arithmetic.{◌+f◌, ◌-f◌, ◌*f◌, ◌/f◌, 0f, 1f, small}
use Rattle.rust_text.specs.Forms.{◌<f◌, ◌>f◌, ◌!◌, for_each}
use Rattle.rust_text.specs.Numbers.{sanitise, clamp01, clamp_floor}
use Rattle.rust_text.specs.State.{Quad, Method, store_motors}
use Rattle.rust_text.specs.ThrustFloor.{torque_deltas}

-- the least and the largest of four, which the Rust finds twice by the same lines: of the deltas, and of the motors
unfoldable pub extremes : List Float → Float × Float
extremes d =
    -- 000:344:         let (mut dmin, mut dmax) = (d[0], d[0]);
    -- 000:373:         let (mut lo, mut hi) = (m[0], m[0]);
    let start : Float × Float = (d ! 0, d ! 0) in
    -- 000:345:         for &di in &d[1..] {
    -- 000:374:         for &v in &m[1..] {
    for_each (drop 1 d) (λ di both.
    -- 000:346:             if di < dmin {
    -- 000:347:                 dmin = di;
    -- 000:375:             if v < lo {
    -- 000:376:                 lo = v;
    let dmin = if di <f both.0 then di else both.0 in
    -- 000:349:             if di > dmax {
    -- 000:350:                 dmax = di;
    -- 000:378:             if v > hi {
    -- 000:379:                 hi = v;
    let dmax = if di >f both.1 then di else both.1 in
    (dmin, dmax)) start

unfoldable pub range_scale : Float → Float → Float → Float
range_scale idle dmin dmax =
    -- 000:357:         let span = 1.0 - idle;
    let span = 1f -f idle in
    -- 000:358:         let range = sanitise(dmax - dmin);
    let range = sanitise (dmax -f dmin) in
    -- 000:359:         let mut s = 1.0_f32;
    let s = 1f in
    -- 000:360:         if range.is_finite() && range > 1e-6 && range > span {
    -- 000:361:             s = span / range;
    let s = if finite range && range >f small && range >f span then span /f range else s in
    -- 000:363:         if !s.is_finite() || s < 0.0 {
    -- 000:364:             s = 0.0;
    if not (finite s) || s <f 0f then 0f else s

unfoldable pub shift_of : Float → Float → Float → Float
shift_of idle lo hi =
    -- 000:382:         let shift = if lo < idle {
    if lo <f idle
    -- 000:383:             idle - lo
    then idle -f lo
    -- 000:384:         } else if hi > 1.0 {
    else if hi >f 1f
    -- 000:385:             -(hi - 1.0)
    then neg (hi -f 1f)
    -- 000:386:         } else {
    -- 000:387:             0.0
    else 0f

unfoldable pub collective_added : Float → Float → List Float → List Float
collective_added t s d =
    -- 000:366:         for di in d.iter_mut() {
    -- 000:367:             *di *= s;
    let d = map (λ di. di *f s) d in
    -- 000:372:         let mut m = [t + d[0], t + d[1], t + d[2], t + d[3]];
    (t +f d ! 0) ∷ (t +f d ! 1) ∷ (t +f d ! 2) ∷ (t +f d ! 3) ∷ []

unfoldable pub shift_added : Float → List Float → List Float
shift_added idle m =
    -- 373 to 387
    let shift = shift_of idle (extremes m).0 (extremes m).1 in
    -- 000:389:         for mi in m.iter_mut() {
    -- 000:390:             *mi = clamp_floor(*mi + shift, idle);
    map (λ mi. clamp_floor (mi +f shift) idle) m

-- 000:331:     pub fn mix_airmode(&mut self, torque_body: [f32; 3], thrust: f32, idle: f32) -> [f32; 4] {
unfoldable pub mix_airmode : Quad → List Float → Float → Float → Method
mix_airmode self torque_body thrust idle =
    -- 000:332:         let t = clamp01(sanitise(thrust));
    let t = clamp01 (sanitise thrust) in
    -- 000:333:         let idle = clamp01(sanitise(idle));
    let idle = clamp01 (sanitise idle) in
    -- 000:334:         let r = sanitise(torque_body[0]);
    let r = sanitise (torque_body ! 0) in
    -- 000:335:         let p = sanitise(torque_body[1]);
    let p = sanitise (torque_body ! 1) in
    -- 000:336:         let y = sanitise(torque_body[2]);
    let y = sanitise (torque_body ! 2) in
    -- 339 to 342
    let d = torque_deltas r p y in
    -- 344 to 364
    let s = range_scale idle (extremes d).0 (extremes d).1 in
    -- 366 to 372
    let m = collective_added t s d in
    -- 373 to 390
    let m = shift_added idle m in
    -- 000:392:         self.last_motors = m;
    -- 000:393:         m
    (store_motors self m, m)

-- The Rust's `QuadMixer::mix_priority`, a step a definition. Follows relay-mix-quad (document 000), Apache-2.0, see
-- NOTICE; changed: written as definitions. Definitions only.
use Rattle.std.specs.Prelude.{List, [], ◌∷◌, set, replicate, Float, if◌then◌else◌}
use Rattle.binary32.specs.Arithmetic.{◌+f◌, ◌*f◌, 0f}
use Rattle.rust_text.specs.Forms.{◌<f◌, ◌!◌, ◌!!◌, for_up_to}
use Rattle.rust_text.specs.Numbers.{sanitise, clamp01, clamp_floor}
use Rattle.rust_text.specs.Fit.{scale_to_fit}
use Rattle.rust_text.specs.State.{Quad, MIXER_X, Method, store_motors}

-- dy and drp, which one loop fills
unfoldable pub groups : Float → Float → Float → List Float × List Float
groups r p y =
    -- 000:289:         let mut dy = [0.0_f32; 4];
    let dy = replicate 4 0f in
    -- 000:290:         let mut drp = [0.0_f32; 4];
    let drp = replicate 4 0f in
    -- 000:291:         for i in 0..4 {
    for_up_to 4 (λ i both.
    -- 000:292:             let row = &MIXER_X[i];
    let row = MIXER_X !! i in
    -- 000:293:             dy[i] = sanitise(row[3] * y);
    let dy = set both.0 i (sanitise (row ! 3 *f y)) in
    -- 000:294:             drp[i] = sanitise(row[1] * r + row[2] * p);
    let drp = set both.1 i (sanitise (row ! 1 *f r +f row ! 2 *f p)) in
    (dy, drp)) (dy, drp)

unfoldable pub yaw_fit : Float → Float → List Float → List Float → Float
yaw_fit base floor drp dy =
    -- 000:300:         let base_rp = [base + drp[0], base + drp[1], base + drp[2], base + drp[3]];
    let base_rp = (base +f drp ! 0) ∷ (base +f drp ! 1) ∷ (base +f drp ! 2) ∷ (base +f drp ! 3) ∷ [] in
    -- 000:301:         let sy = scale_to_fit(&base_rp, &dy, floor);
    scale_to_fit base_rp dy floor

unfoldable pub roll_pitch_fit : Float → Float → Float → List Float → List Float → Float
roll_pitch_fit base floor sy drp dy =
    -- 000:303:         let base_y = [
    let base_y =
    -- 000:304:             base + sy * dy[0],
    (base +f sy *f dy ! 0)
    -- 000:305:             base + sy * dy[1],
    ∷ (base +f sy *f dy ! 1)
    -- 000:306:             base + sy * dy[2],
    ∷ (base +f sy *f dy ! 2)
    -- 000:307:             base + sy * dy[3],
    ∷ (base +f sy *f dy ! 3) ∷ [] in
    -- 000:309:         let srp = scale_to_fit(&base_y, &drp, floor);
    scale_to_fit base_y drp floor

unfoldable pub two_sums : Float → Float → Float → Float → List Float → List Float → List Float
two_sums base floor srp sy drp dy =
    -- 000:311:         let mut m = [0.0_f32; 4];
    let m = replicate 4 0f in
    -- 000:312:         for i in 0..4 {
    -- 000:313:             m[i] = clamp_floor(base + srp * drp[i] + sy * dy[i], floor);
    for_up_to 4 (λ i m. set m i (clamp_floor (base +f srp *f drp ! i +f sy *f dy ! i) floor)) m

-- 000:280:     pub fn mix_priority(&mut self, torque_body: [f32; 3], thrust: f32, floor: f32) -> [f32; 4] {
unfoldable pub mix_priority : Quad → List Float → Float → Float → Method
mix_priority self torque_body thrust floor =
    -- 000:281:         let t = clamp01(sanitise(thrust));
    let t = clamp01 (sanitise thrust) in
    -- 000:282:         let floor = clamp01(sanitise(floor));
    let floor = clamp01 (sanitise floor) in
    -- 000:283:         let base = if t < floor { floor } else { t };
    let base = if t <f floor then floor else t in
    -- 000:284:         let r = sanitise(torque_body[0]);
    let r = sanitise (torque_body ! 0) in
    -- 000:285:         let p = sanitise(torque_body[1]);
    let p = sanitise (torque_body ! 1) in
    -- 000:286:         let y = sanitise(torque_body[2]);
    let y = sanitise (torque_body ! 2) in
    -- 289 to 294
    let dy = (groups r p y).0 in
    let drp = (groups r p y).1 in
    -- 300 to 309
    let sy = yaw_fit base floor drp dy in
    let srp = roll_pitch_fit base floor sy drp dy in
    -- 311 to 313
    let m = two_sums base floor srp sy drp dy in
    -- 000:315:         self.last_motors = m;
    -- 000:316:         m
    (store_motors self m, m)

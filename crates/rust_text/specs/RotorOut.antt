-- The Rust's `QuadMixer::mix_rotor_out`, a step a definition. Follows relay-mix-quad (document 000), Apache-2.0, see
-- NOTICE; changed: written as definitions. Definitions only.
use Rattle.std.specs.Prelude.{not, List, [], ◌∷◌, ℕ, ◌+◌, ◌%◌, eqb, leb, get_or, set, replicate, Float, if◌then◌else◌}
use Rattle.std.proofs.Math.Option.{Option, none, some}
use Rattle.std.specs.Float.Ieee.{neg}
use Rattle.binary32.specs.Arithmetic.{◌+f◌, ◌*f◌, 0f, 1f}
use Rattle.rules.specs.RotorOut.{3f, 8f}
use Rattle.rust_text.specs.Forms.{◌!◌, ◌!!◌, for_up_to}
use Rattle.rust_text.specs.Numbers.{clamp, sanitise, clamp01, clamp_floor}
use Rattle.rust_text.specs.Solve.{solve3}
use Rattle.rust_text.specs.Fit.{scale_to_fit}
use Rattle.rust_text.specs.State.{Quad, MIXER_X, Method, store_motors, store_scale}

-- with no rotor lost
unfoldable pub all_four : Float → Float → Float → Float → List Float
all_four floor t r p =
    -- 000:439:             let mut m = [0.0_f32; 4];
    let m = replicate 4 0f in
    -- 000:440:             for i in 0..4 {
    for_up_to 4 (λ i m.
    -- 000:441:                 let row = &MIXER_X[i];
    let row = MIXER_X !! i in
    -- 000:442:                 m[i] = clamp_floor(sanitise(t + row[1] * r + row[2] * p), floor);
    set m i (clamp_floor (sanitise (t +f row ! 1 *f r +f row ! 2 *f p)) floor)) m

-- `h[k]`
abbrev pub place : List ℕ → ℕ → ℕ
place h k = get_or h k 0

-- the equations of the healthy rotors
unfoldable pub matrix : List ℕ → List (List Float)
matrix h =
    -- 000:467:         let a = [
    -- 000:468:             [1.0, 1.0, 1.0],
    (1f ∷ 1f ∷ 1f ∷ [])
    -- 000:469:             [MIXER_X[h[0]][1], MIXER_X[h[1]][1], MIXER_X[h[2]][1]],
    ∷ (MIXER_X !! place h 0 ! 1 ∷ MIXER_X !! place h 1 ! 1 ∷ MIXER_X !! place h 2 ! 1 ∷ [])
    -- 000:470:             [MIXER_X[h[0]][2], MIXER_X[h[1]][2], MIXER_X[h[2]][2]],
    ∷ (MIXER_X !! place h 0 ! 2 ∷ MIXER_X !! place h 1 ! 2 ∷ MIXER_X !! place h 2 ! 2 ∷ []) ∷ []

-- what base and delta hold after the `if let`; the last two arguments are what its two calls of `solve3` return
unfoldable pub solved_into : List ℕ → List Float → List Float → Option (List Float) → Option (List Float)
    → List Float × List Float
-- 000:483:         if let (Some(b), Some(d)) = (solve3(a, [c, 0.0, 0.0]), solve3(a, [0.0, r, p])) {
solved_into h base delta (some b) (some d) =
    -- 000:484:             for k in 0..3 {
    for_up_to 3 (λ k both.
    -- 000:485:                 base[h[k]] = b[k];
    let base = set both.0 (place h k) (b ! k) in
    -- 000:486:                 delta[h[k]] = d[k];
    let delta = set both.1 (place h k) (d ! k) in
    (base, delta)) (base, delta)
solved_into h base delta (some b) none = (base, delta)
solved_into h base delta none (some d) = (base, delta)
solved_into h base delta none none = (base, delta)

unfoldable pub all_but_one : ℕ → Float → Float → List Float → List Float → List Float
all_but_one failed floor s base delta =
    -- 000:490:         let mut m = [0.0_f32; 4];
    let m = replicate 4 0f in
    -- 000:491:         for i in 0..4 {
    for_up_to 4 (λ i m.
    -- 000:492:             if i != failed {
    if not (eqb i failed) then
    -- 000:493:                 m[i] = clamp_floor(sanitise(base[i] + s * delta[i]), floor);
    set m i (clamp_floor (sanitise (base ! i +f s *f delta ! i)) floor)
    else m) m

-- with one lost
unfoldable pub three_of_four : ℕ → Float → Float → Float → Float → List Float
three_of_four failed floor t r p =
    -- 000:458:         let h = [(failed + 1) % 4, (failed + 2) % 4, (failed + 3) % 4];
    let h = (failed + 1) % 4 ∷ (failed + 2) % 4 ∷ (failed + 3) % 4 ∷ [] in
    -- 000:466:         let c = 3.0 * t;
    let c = 3f *f t in
    -- 467 to 470
    let a = matrix h in
    -- 000:481:         let mut base = [0.0_f32; 4];
    let base = replicate 4 0f in
    -- 000:482:         let mut delta = [0.0_f32; 4];
    let delta = replicate 4 0f in
    -- 483 to 486
    let both = solved_into h base delta (solve3 a (c ∷ 0f ∷ 0f ∷ [])) (solve3 a (0f ∷ r ∷ p ∷ [])) in
    let base = both.0 in
    let delta = both.1 in
    -- 000:489:         let s = scale_to_fit(&base, &delta, floor);
    let s = scale_to_fit base delta floor in
    -- 490 to 493
    all_but_one failed floor s base delta

-- 000:408:     pub fn mix_rotor_out(
-- 000:409:         &mut self,
-- 000:410:         failed: usize,
-- 000:411:         torque_body: [f32; 3],
-- 000:412:         thrust: f32,
-- 000:413:         floor: f32,
-- 000:414:     ) -> [f32; 4] {
unfoldable pub mix_rotor_out : Quad → ℕ → List Float → Float → Float → Method
mix_rotor_out self failed torque_body thrust floor =
    -- 000:422:         self.last_torque_scale = 1.0;
    let self = store_scale self 1f in
    -- 000:423:         let t = clamp01(sanitise(thrust));
    let t = clamp01 (sanitise thrust) in
    -- 000:424:         let floor = clamp01(sanitise(floor));
    let floor = clamp01 (sanitise floor) in
    -- 000:430:         const TAU_BOUND: f32 = 8.0;
    let TAU_BOUND = 8f in
    -- 000:431:         let r = sanitise(torque_body[0]).clamp(-TAU_BOUND, TAU_BOUND);
    let r = clamp (sanitise (torque_body ! 0)) (neg TAU_BOUND) TAU_BOUND in
    -- 000:432:         let p = sanitise(torque_body[1]).clamp(-TAU_BOUND, TAU_BOUND);
    let p = clamp (sanitise (torque_body ! 1)) (neg TAU_BOUND) TAU_BOUND in
    -- 000:435:         if failed >= 4 {
    if leb 4 failed then
    (let m = all_four floor t r p in
    -- 000:444:             self.last_motors = m;
    -- 000:445:             return m;
    (store_motors self m, m))
    else
    let m = three_of_four failed floor t r p in
    -- 000:497:         self.last_motors = m;
    -- 000:498:         m
    (store_motors self m, m)

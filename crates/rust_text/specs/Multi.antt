-- The Rust's mixer of any rows, and its two frames. Follows relay-mix-multi (document 001), Apache-2.0, see NOTICE;
-- changed: written as definitions. Definitions only.
use Rattle.std.specs.Prelude.{List, [], ◌∷◌, length, set, replicate, Float}
use Rattle.binary32.specs.Arithmetic.{◌+f◌, ◌*f◌, 0f, 1f}
use Rattle.rules.specs.Rows.{1/2, -1f, -1/2, 866/1000, -866/1000, 707/1000, -707/1000}
use Rattle.rust_text.specs.Forms.{◌!◌, ◌!!◌, for_up_to}
use Rattle.rust_text.specs.Numbers.{clamp01_of001}

-- 001:23: pub struct Wrench {
-- 001:25:     pub thrust: f32,
-- 001:27:     pub roll: f32,
-- 001:29:     pub pitch: f32,
-- 001:31:     pub yaw: f32,
pub record WrenchM : Type 0 where
  pub thrust : Float
  pub roll : Float
  pub pitch : Float
  pub yaw : Float

-- A mixer is its rows; M is how many there are.
-- 001:37: pub struct Mixer<const M: usize> {
-- 001:38:     rows: [[f32; 4]; M],
-- 001:56: impl<const M: usize> Mixer<M> {
-- 001:58:     pub fn new(rows: [[f32; 4]; M]) -> Self {
-- 001:59:         Self { rows }
abbrev pub new_m : List (List Float) → List (List Float)
new_m rows = rows

-- 001:63:     pub fn mix(&self, w: Wrench) -> [f32; M] {
unfoldable pub mix_m : List (List Float) → WrenchM → List Float
mix_m rows w =
    -- 001:64:         let mut out = [0.0f32; M];
    let out = replicate (length rows) 0f in
    -- 001:65:         for i in 0..M {
    for_up_to (length rows) (λ i out.
    -- 001:66:             let r = &self.rows[i];
    let r = rows !! i in
    -- 001:67:             let v = r[0] * w.thrust + r[1] * w.roll + r[2] * w.pitch + r[3] * w.yaw;
    let v = r ! 0 *f w.thrust +f r ! 1 *f w.roll +f r ! 2 *f w.pitch +f r ! 3 *f w.yaw in
    -- 001:68:             out[i] = clamp01(v);
    set out i (clamp01_of001 v)) out
    -- 001:70:         out

-- 001:77: pub fn hex_x() -> Mixer<6> {
-- 001:79:     Mixer::new([
unfoldable pub hex_x : List (List Float)
hex_x =
    new_m (
    -- 001:80:         [1.0, -1.000, 0.000, 1.0],
    (1f ∷ -1f ∷ 0f ∷ 1f ∷ [])
    -- 001:81:         [1.0, 1.000, 0.000, -1.0],
    ∷ (1f ∷ 1f ∷ 0f ∷ -1f ∷ [])
    -- 001:82:         [1.0, 0.500, -0.866, 1.0],
    ∷ (1f ∷ 1/2 ∷ -866/1000 ∷ 1f ∷ [])
    -- 001:83:         [1.0, -0.500, 0.866, -1.0],
    ∷ (1f ∷ -1/2 ∷ 866/1000 ∷ -1f ∷ [])
    -- 001:84:         [1.0, -0.500, -0.866, -1.0],
    ∷ (1f ∷ -1/2 ∷ -866/1000 ∷ -1f ∷ [])
    -- 001:85:         [1.0, 0.500, 0.866, 1.0],
    ∷ (1f ∷ 1/2 ∷ 866/1000 ∷ 1f ∷ [])
    ∷ [])

-- 001:91: pub fn octo_coax() -> Mixer<8> {
-- 001:92:     Mixer::new([
unfoldable pub octo_coax : List (List Float)
octo_coax =
    new_m (
    -- 001:93:         [1.0, -0.707, 0.707, 1.0],
    (1f ∷ -707/1000 ∷ 707/1000 ∷ 1f ∷ [])
    -- 001:94:         [1.0, -0.707, 0.707, -1.0],
    ∷ (1f ∷ -707/1000 ∷ 707/1000 ∷ -1f ∷ [])
    -- 001:95:         [1.0, 0.707, -0.707, 1.0],
    ∷ (1f ∷ 707/1000 ∷ -707/1000 ∷ 1f ∷ [])
    -- 001:96:         [1.0, 0.707, -0.707, -1.0],
    ∷ (1f ∷ 707/1000 ∷ -707/1000 ∷ -1f ∷ [])
    -- 001:97:         [1.0, 0.707, 0.707, -1.0],
    ∷ (1f ∷ 707/1000 ∷ 707/1000 ∷ -1f ∷ [])
    -- 001:98:         [1.0, 0.707, 0.707, 1.0],
    ∷ (1f ∷ 707/1000 ∷ 707/1000 ∷ 1f ∷ [])
    -- 001:99:         [1.0, -0.707, -0.707, -1.0],
    ∷ (1f ∷ -707/1000 ∷ -707/1000 ∷ -1f ∷ [])
    -- 001:100:         [1.0, -0.707, -0.707, 1.0],
    ∷ (1f ∷ -707/1000 ∷ -707/1000 ∷ 1f ∷ [])
    ∷ [])

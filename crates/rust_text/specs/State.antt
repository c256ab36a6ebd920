-- The Rust's quad: its rows, its state, and how a method on `&mut self` is written here: it takes the state and gives
-- the state that it leaves, with what it returns. Follows relay-mix-quad (document 000), Apache-2.0, see NOTICE;
-- changed: written as definitions. Definitions only.
use Rattle.std.specs.Prelude.{List, [], ◌∷◌, replicate, Float}
use Rattle.binary32.specs.Arithmetic.{0f, 1f}
use Rattle.rules.specs.Rows.{Row, -1f}

-- 000:73: const MIXER_X: [[f32; 4]; 4] = [
unfoldable pub MIXER_X : List Row
MIXER_X =
    -- 000:74:     [1.0, -1.0, 1.0, -1.0],
    (1f ∷ -1f ∷ 1f ∷ -1f ∷ [])
    -- 000:75:     [1.0, -1.0, -1.0, 1.0],
    ∷ (1f ∷ -1f ∷ -1f ∷ 1f ∷ [])
    -- 000:76:     [1.0, 1.0, -1.0, -1.0],
    ∷ (1f ∷ 1f ∷ -1f ∷ -1f ∷ [])
    -- 000:77:     [1.0, 1.0, 1.0, 1.0],
    ∷ (1f ∷ 1f ∷ 1f ∷ 1f ∷ [])
    ∷ []

-- 000:83: pub struct QuadMixer {
-- 000:84:     last_motors: [f32; 4],
-- 000:111:     last_torque_scale: f32,
pub record Quad : Type 0 where
  pub last_motors : List Float
  pub last_torque_scale : Float

-- what a method on `&mut self` that returns motors gives: the state that it leaves, and the motors
abbrev pub Method : Type 0
Method = Quad × List Float

-- what such a method leaves and returns, where it returns the motors that it stored
abbrev pub answered : Quad → Method
answered self = (self, self.last_motors)

-- `self.last_motors = m;` and `self.last_torque_scale = s;`
abbrev pub store_motors : Quad → List Float → Quad
store_motors self m = record { last_motors = m; last_torque_scale = self.last_torque_scale }

abbrev pub store_scale : Quad → Float → Quad
store_scale self s = record { last_motors = self.last_motors; last_torque_scale = s }

-- 000:114: impl QuadMixer {
-- 000:115:     pub const fn new() -> Self {
-- 000:116:         Self {
-- 000:117:             last_motors: [0.0; 4],
-- 000:118:             last_torque_scale: 1.0,
unfoldable pub new : Quad
new = record { last_motors = replicate 4 0f; last_torque_scale = 1f }

-- 000:122:     pub fn last_motors(&self) -> [f32; 4] {
-- 000:123:         self.last_motors
unfoldable pub last_motors : Quad → List Float
last_motors self = self.last_motors

-- 000:264:     pub fn last_torque_scale(&self) -> f32 {
-- 000:265:         self.last_torque_scale
unfoldable pub last_torque_scale : Quad → Float
last_torque_scale self = self.last_torque_scale

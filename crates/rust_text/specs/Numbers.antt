-- The Rust's functions of one number. Follows relay-mix-quad (document 000) and relay-mix-multi (001), Apache-2.0, see
-- NOTICE; changed: written as definitions. Definitions only.
use Rattle.std.specs.Prelude.{Bool, not, ◌||◌, Float, if◌then◌else◌}
use Rattle.std.specs.Int.Bits.{bit_and}
use Rattle.std.specs.Float.{binary32}
use Rattle.std.specs.Float.Ieee.{is_nan, le, of_bits, to_bits}
use Rattle.std.specs.Float.Ieee.Scale.{finite}
use Rattle.binary32.specs.Arithmetic.{0f, 1f}
use Rattle.rust_text.specs.Forms.{◌<f◌, ◌>f◌}

-- ---- `f32::clamp` of Rust's own library

-- it panics "if min > max, min is NaN, or max is NaN"
abbrev pub clamp_panics : Float → Float → Bool
clamp_panics min max = not (le min max)

-- and else it gives min for what is under it, and then max for what is over that
unfoldable pub clamp : Float → Float → Float → Float
clamp x min max =
    let x = if x <f min then min else x in
    if x >f max then max else x

-- ---- 000

-- 000:534: fn libm_fabsf(x: f32) -> f32 {
-- 000:535:     f32::from_bits(x.to_bits() & 0x7fff_ffff)
unfoldable pub libm_fabsf : Float → Float
libm_fabsf x = of_bits binary32 (bit_and (to_bits binary32 x) 0x7fff_ffff)

-- 000:542: fn clamp_floor(x: f32, lo: f32) -> f32 {
unfoldable pub clamp_floor : Float → Float → Float
clamp_floor x lo =
    -- 000:543:     if !x.is_finite() || x < lo {
    if not (finite x) || x <f lo
    -- 000:544:         lo
    then lo
    -- 000:545:     } else if x > 1.0 {
    else if x >f 1f
    -- 000:546:         1.0
    then 1f
    -- 000:547:     } else {
    -- 000:548:         x
    else x

-- 000:553: fn clamp01(x: f32) -> f32 {
-- 000:556:     x.clamp(0.0, 1.0)
unfoldable pub clamp01 : Float → Float
clamp01 x = clamp x 0f 1f

-- 000:560: fn sanitise(x: f32) -> f32 {
-- 000:561:     if !x.is_finite() { 0.0 } else { x }
unfoldable pub sanitise : Float → Float
sanitise x = if not (finite x) then 0f else x

-- ---- 001

-- 001:44: pub fn clamp01(x: f32) -> f32 {
unfoldable pub clamp01_of001 : Float → Float
clamp01_of001 x =
    -- 001:45:     if x.is_nan() {
    if is_nan x
    -- 001:46:         0.0
    then 0f
    -- 001:47:     } else if x < 0.0 {
    else if x <f 0f
    -- 001:48:         0.0
    then 0f
    -- 001:49:     } else if x > 1.0 {
    else if x >f 1f
    -- 001:50:         1.0
    then 1f
    -- 001:51:     } else {
    -- 001:52:         x
    else x

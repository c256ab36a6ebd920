-- The Rust's fit scale. Follows relay-mix-quad (document 000), Apache-2.0, see NOTICE; changed: written as definitions.
-- Definitions only.
use Rattle.std.specs.Prelude.{not, ◌||◌, List, Float, if◌then◌else◌}
use Rattle.std.specs.Float.Ieee.{neg}
use Rattle.std.specs.Float.Ieee.Scale.{finite}
use Rattle.binary32.specs.Arithmetic.{◌-f◌, ◌/f◌, 0f, 1f, small}
use Rattle.rust_text.specs.Forms.{◌<f◌, ◌>f◌, ◌!◌, for_up_to}

-- 000:581: fn scale_to_fit(base: &[f32; 4], delta: &[f32; 4], floor: f32) -> f32 {
unfoldable pub scale_to_fit : List Float → List Float → Float → Float
scale_to_fit base delta floor =
    -- 000:582:     const EPS: f32 = 1.0e-6;
    let EPS = small in
    -- 000:583:     let mut s = 1.0_f32;
    let s = 1f in
    -- 000:584:     for i in 0..4 {
    let s = for_up_to 4 (λ i s.
    -- 000:585:         let di = delta[i];
    let di = delta ! i in
    -- 000:586:         let b = base[i];
    let b = base ! i in
    -- 000:587:         if di > EPS {
    if di >f EPS then
    -- 000:588:             let lim = (1.0 - b) / di;
    (let lim = (1f -f b) /f di in
    -- 000:589:             if lim < s {
    -- 000:590:                 s = lim;
    if lim <f s then lim else s)
    -- 000:592:         } else if di < -EPS {
    else if di <f neg EPS then
    -- 000:593:             let lim = (b - floor) / (-di);
    (let lim = (b -f floor) /f neg di in
    -- 000:594:             if lim < s {
    -- 000:595:                 s = lim;
    if lim <f s then lim else s)
    else s) s in
    -- 000:599:     if s < 0.0 || !s.is_finite() { 0.0 } else { s }
    if s <f 0f || not (finite s) then 0f else s

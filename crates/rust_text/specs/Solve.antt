-- The Rust's three equations in three unknowns. Follows relay-mix-quad (document 000), Apache-2.0, see NOTICE; changed:
-- written as definitions. Definitions only.
use Rattle.std.specs.Prelude.{not, ◌||◌, List, set, replicate, Float, if◌then◌else◌}
use Rattle.std.proofs.Math.Option.{Option, none, some}
use Rattle.std.specs.Float.Ieee.Scale.{finite}
use Rattle.binary32.specs.Arithmetic.{◌+f◌, ◌-f◌, ◌*f◌, ◌/f◌, 0f, small}
use Rattle.rust_text.specs.Forms.{◌<f◌, ◌!◌, ◌!!◌, for_up_to, zip_into}
use Rattle.rust_text.specs.Numbers.{libm_fabsf}

-- 000:504: fn det3(a: [[f32; 3]; 3]) -> f32 {
unfoldable pub det3 : List (List Float) → Float
det3 a =
    -- 000:505:     a[0][0] * (a[1][1] * a[2][2] - a[1][2] * a[2][1])
    a !! 0 ! 0 *f (a !! 1 ! 1 *f a !! 2 ! 2 -f a !! 1 ! 2 *f a !! 2 ! 1)
    -- 000:506:         - a[0][1] * (a[1][0] * a[2][2] - a[1][2] * a[2][0])
    -f a !! 0 ! 1 *f (a !! 1 ! 0 *f a !! 2 ! 2 -f a !! 1 ! 2 *f a !! 2 ! 0)
    -- 000:507:         + a[0][2] * (a[1][0] * a[2][1] - a[1][1] * a[2][0])
    +f a !! 0 ! 2 *f (a !! 1 ! 0 *f a !! 2 ! 1 -f a !! 1 ! 1 *f a !! 2 ! 0)

-- 000:515: fn solve3(a: [[f32; 3]; 3], rhs: [f32; 3]) -> Option<[f32; 3]> {
unfoldable pub solve3 : List (List Float) → List Float → Option (List Float)
solve3 a rhs =
    -- 000:516:     let det = det3(a);
    let det = det3 a in
    -- 000:517:     if !det.is_finite() || libm_fabsf(det) < 1.0e-6 {
    if not (finite det) || libm_fabsf det <f small
    -- 000:518:         return None;
    then none
    else
    -- 000:520:     let mut x = [0.0_f32; 3];
    let x = replicate 3 0f in
    -- 000:521:     for k in 0..3 {
    let x = for_up_to 3 (λ k x.
    -- 000:522:         let mut ak = a;
    let ak = a in
    -- 000:523:         for (row, rk) in ak.iter_mut().zip(rhs.iter()) {
    -- 000:524:             row[k] = *rk;
    let ak = zip_into (λ row rk. set row k rk) ak rhs in
    -- 000:526:         x[k] = det3(ak) / det;
    set x k (det3 ak /f det)) x in
    -- 000:528:     Some(x)
    some x

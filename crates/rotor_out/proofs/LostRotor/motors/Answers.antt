-- `LostRotor::motors` meets its contract: both parts solve one rotor's equations, and what is found, or three +0, is
-- put at the healthy rotors' places; the four motors are those of `motors_without`, at the fit scale, by
-- `each_counted`. Assumes nothing.
use mathlib.Core.Path.{◌≡◌, ◌∙◌, refl}
use Prim.Native.Nat.{ℕ}
use lib.ListN.{get_or}
use lib.Ieee.{nan, binary32}
use Rattle.std.proofs.Common.{rules}
use Rattle.general.proofs.Four.{four}
use Rattle.binary32.proofs.Magnitude.{Finite}
use Rattle.fit.specs.Fit.{fit_scale}
use Rattle.fit.proofs.Bounded.{scale_fits, scale_finite}
use Rattle.rules.specs.RotorOut.{base_without, delta_without, motors_without}
use Rattle.rotor_out.proofs.Lost.{counted_at, each_counted, placed_lost}
use Rattle.rotor_out.proofs.LostRotor.motors.Goals as goal

pub returns : goal.returns
unfolding motors_without base_without delta_without
returns g c =
    let failed = g.row.FAILED in
    let asked = c.args.asked in
    let b = c.placed-base.result in
    let d = c.placed-delta.result in
    let is_b : b ≡ base_without failed asked.thrust =
    rw (c.placed-base.ensures, c.unwrap_or.ensures, c.solve3.ensures, c.equations-a.ensures) refl in
    let is_d : d ≡ delta_without failed asked.roll asked.pitch =
    rw (c.placed-delta.ensures, c.unwrap_or-2.ensures, c.solve3-2.ensures, c.equations-a.ensures) refl in
    let floor : Finite binary32 asked.floor =
    record { fits = search rules; finite = asked.finite_floor } in
    let s : Finite binary32 (fit_scale asked.floor b d) =
    record { fits = scale_fits asked.floor b d; finite = scale_finite asked.floor b d } in
    let m = λ (i : ℕ). counted_at failed asked.floor c.scale-s.result b d i in
    let first : get_or c.from_fn.result 0 nan ≡ m 0 = search rules in
    let second : get_or c.from_fn.result 1 nan ≡ m 1 = search rules in
    let third : get_or c.from_fn.result 2 nan ≡ m 2 = search rules in
    let fourth : get_or c.from_fn.result 3 nan ≡ m 3 = search rules in
    let at_scale : c.from_fn.result ≡ motors_without failed asked.floor b d =
    four c.from_fn.result c.from_fn.ensures.items.long ∙ rw (first, second, third, fourth, c.scale-s.ensures.is)
    (each_counted failed asked.floor (fit_scale asked.floor b d) b d c.args.self.is_one floor s
    (rw c.placed-base.ensures (placed_lost failed _ c.args.self.is_one))
    (rw c.placed-delta.ensures (placed_lost failed _ c.args.self.is_one))) in
    at_scale ∙ rw (is_b, is_d) refl

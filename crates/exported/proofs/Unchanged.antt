-- What a refusal leaves as it was. Where `footspandle_sheet_run_quad32` answers a number other than 0: the state and
-- the output. Where `footspandle_mixer_mix_thrust_floor` does: the outputs, and what is lent for the scale.
-- Assumes nothing.
use mathlib.Core.Path.{◌≡◌, refl, sym, subst, ap, ◌∙◌}
use mathlib.Core.Bool.{not}
use mathlib.Core.List.{List}
use Prim.Native.Nat.{ℕ}
use lib.Dec.{T, eqb, eqb_refl, T_not}
use lib.Ieee.{Float}
use borrow.Author.Tests.{ne_eqb}
use Rattle.refusals.specs.Numbers.{accepted}
use Rattle.refusals.specs.Told.{Told}
use Rattle.quad.specs.declared.QuadMixer.{QuadMixer}
use Rattle.multi.specs.declared.Wrench.{Wrench}
use Rattle.std.specs.Prelude.{Ok, Err}
use Rattle.multi_thrust_floor.specs.Floored.{FloorAnswer, floor_number}
use Rattle.multi_thrust_floor.proofs.Refused as floor_refused
use Rattle.exported.specs.Passed.{stored, FlooredAs, RanAs}

pub run_unchanged : (s : List ℕ) (before : QuadMixer) (out : List ℕ) (number i : ℕ) (after : QuadMixer)
    (written : List ℕ)
    → RanAs s before out number i after written
    → (number ≡ accepted → ⊥)
    → (after ≡ before) × (written ≡ out)
run_unchanged s before out number i after written h refused =
    let same = ap (λ (t : Told). t.number) (h.told_is ∙ h.ran.told) in
    let is_refused = ne_eqb _ accepted (λ e. refused (same ∙ e)) in
    (rw is_refused at h.ran.state, rw is_refused at h.ran.output)

-- so a run that does not write the state where it is refused is the same run
pub run_unwritten : (s : List ℕ) (before : QuadMixer) (out : List ℕ) (number i : ℕ) (after : QuadMixer)
    (written : List ℕ)
    → RanAs s before out number i after written
    → T (not (eqb number accepted))
    → RanAs s before out number i before written
run_unwritten s before out number i after written h refused =
    subst (λ (q : QuadMixer). RanAs s before out number i q written)
    (run_unchanged s before out number i after written h
    (λ e. T_not (eqb number accepted) refused (subst (λ (n : ℕ). T (eqb n accepted)) (sym e) (eqb_refl accepted)))).0 h

-- what is held for a scale stays where the answer has none
held_stays : (answer : FloorAnswer) (held : Float) → (floor_number answer ≡ accepted → ⊥) → stored answer held ≡ held
held_stays (Ok s) held not_0 = absurd (not_0 refl)
held_stays (Err bad) held not_0 = refl

pub mix_thrust_floor_unchanged : (run : List Float) (w : Wrench) (floor : Float) (before : List Float) (held : Float)
    (number : ℕ) (after : List Float) (scale : Float)
    → FlooredAs run w floor before held number after scale
    → (number ≡ accepted → ⊥)
    → (after ≡ before) × (scale ≡ held)
mix_thrust_floor_unchanged run w floor before held number after scale h refused =
    let refusal : floor_number h.answer ≡ accepted → ⊥ = λ e. refused (h.number_is ∙ e) in (
      floor_refused.refused_unchanged run w floor before h.answer after h.mixed refusal,
      h.scale_is ∙ held_stays h.answer held refusal,
    )

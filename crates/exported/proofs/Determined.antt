-- Each exported function's contract determines what it answers and all that it writes: two results that satisfy it are
-- one, by bits. A contract over a lent state is that of the function by value, said of the state that stands there, and
-- is determined as that one is. Assumes nothing.
use mathlib.Core.Path.{◌≡◌, sym, ap, ◌∙◌}
use mathlib.Core.List.{List}
use Prim.Native.Nat.{ℕ}
use lib.ListN.{length}
use lib.Ieee.{Float}
use Rattle.number.specs.Treat.{unit_clamp}
use Rattle.refusals.specs.Told.{Told}
use Rattle.rules.specs.Rows.{Row, quad_rows, quad_x_rows, run_of, rows_of, hex_rows, octo_rows}
use Rattle.rules.specs.Torque.{torque_of, achieved}
use Rattle.general.proofs.Determined.{Determined, equal_determined}
use Rattle.quad.specs.declared.QuadMixer.{QuadMixer}
use Rattle.quad.specs.Mixes.{PlainGives, ThrustFloorGives, PriorityGives, AirmodeGives, RotorOutGives}
use Rattle.quad.specs.State.{fresh}
use Rattle.quad.proofs.Determined as quad_determined
use Rattle.frame.specs.declared.MixerN.{MixerN}
use Rattle.frame.specs.Mixer.{made, FrameMixed}
use Rattle.frame.proofs.Determined as frame_determined
use Rattle.multi.specs.Wrench.{wrench, mix_number, Allocated}
use Rattle.multi.proofs.Determined as multi_determined
use Rattle.multi_thrust_floor.specs.Floored.{FloorAnswer, floor_number, Floored}
use Rattle.multi_thrust_floor.proofs.Determined as floor_determined
use Rattle.sheet.specs.Table.{judged, told_by}
use Rattle.bodies.specs.Body.{handed_back, handed_at}
use Rattle.sheet_run.proofs.Determined.{run_determined}
use Rattle.exported.specs.Passed.{passed, told, Numbered, stored, FlooredAs, RanAs}

-- two numbers that are told alike are the same
same_told : (n m i j : ℕ) → told n i ≡ told m j → (n ≡ m) × (i ≡ j)
same_told n m i j e = (ap (λ (t : Told). t.number) e, ap (λ (t : Told). t.of_entry) e)

-- ---- the quad

module _ (torque : List Float) (thrust floor : Float) (failed : ℕ) (before : QuadMixer) where
  pub quad_new_determined : Determined (λ after. after ≡ fresh)
  quad_new_determined = equal_determined

  pub quad_last_motors_determined : Determined (λ motors. motors ≡ before.last_motors)
  quad_last_motors_determined = equal_determined

  pub quad_last_torque_scale_determined : Determined (λ r. r ≡ before.last_torque_scale)
  quad_last_torque_scale_determined = equal_determined

  pub quad_last_torque_determined : Determined (λ sums. sums ≡ before.last_torque)
  quad_last_torque_determined = equal_determined

  pub quad_mix_determined : Determined (PlainGives before torque thrust)
  quad_mix_determined = quad_determined.mix_determined torque torque thrust floor failed before

  pub quad_mix_thrust_floor_determined : Determined (ThrustFloorGives before torque thrust floor)
  quad_mix_thrust_floor_determined =
      quad_determined.mix_thrust_floor_determined torque torque thrust floor failed before

  pub quad_mix_priority_determined : Determined (PriorityGives before torque thrust floor)
  quad_mix_priority_determined = quad_determined.mix_priority_determined torque torque thrust floor failed before

  pub quad_mix_airmode_determined : Determined (AirmodeGives before torque thrust floor)
  quad_mix_airmode_determined = quad_determined.mix_airmode_determined torque torque thrust floor failed before

  pub quad_mix_rotor_out_determined : Determined (RotorOutGives before failed torque thrust floor)
  quad_mix_rotor_out_determined = quad_determined.mix_rotor_out_determined torque torque thrust floor failed before

pub motors_to_torque_signs_determined : (motors : List Float) → Determined (λ sums. sums ≡ torque_of quad_rows motors)
motors_to_torque_signs_determined motors = equal_determined

-- ---- `MixerN`: the count that is answered, and the matrix

passed_determined : (mixer : MixerN) (n m : ℕ) (mix other : List Float) → passed mix n ≡ mixer
    → passed other m ≡ mixer → (n ≡ m) × (mix ≡ other)
passed_determined mixer n m mix other h k =
    let e = h ∙ sym k in (ap (λ (x : MixerN). x.n) e, ap (λ (x : MixerN). x.mix) e)

module _ (rows torque motors : List Float) (thrust : Float) (count n m : ℕ) (mix other : List Float) where
  pub mixer_n_new_determined : passed mix n ≡ made rows count → passed other m ≡ made rows count
      → (n ≡ m) × (mix ≡ other)
  mixer_n_new_determined = passed_determined (made rows count) n m mix other

  pub mixer_n_n_determined : Determined (λ r. r ≡ (passed mix n).n)
  mixer_n_n_determined = equal_determined

  pub mixer_n_quad_x_determined : passed mix n ≡ made (run_of quad_x_rows) 4 → passed other m
      ≡ made (run_of quad_x_rows) 4
      → (n ≡ m) × (mix ≡ other)
  mixer_n_quad_x_determined = passed_determined (made (run_of quad_x_rows) 4) n m mix other

  pub mixer_n_mix_determined : Determined (FrameMixed (rows_of mix) torque thrust)
  mixer_n_mix_determined = frame_determined.mix_determined mix torque motors thrust n (passed mix n)

  pub mixer_n_achieved_wrench_determined : Determined (λ w. w ≡ achieved (rows_of mix) motors)
  mixer_n_achieved_wrench_determined = equal_determined

-- ---- 001

module _ (x : Float) (run w before : List Float) where
  pub clamp01_determined : Determined (λ r. r ≡ unit_clamp x)
  clamp01_determined = equal_determined

  -- the number, and what the outputs are afterwards
  pub mixer_mix_determined : (n m : ℕ) (after other : List Float) → Numbered run (wrench w) before n after
      → Numbered run (wrench w) before m other → (n ≡ m) × (after ≡ other)
  mixer_mix_determined n m after other h k =
      let one =
      multi_determined.mix_determined x run before (wrench w) h.answer k.answer after other
      h.mixed k.mixed in
      (h.number_is ∙ ap mix_number one.0 ∙ sym k.number_is, one.1)

  pub hex_x_determined : Determined (λ rows. rows ≡ run_of hex_rows)
  hex_x_determined = equal_determined

  pub octo_coax_determined : Determined (λ rows. rows ≡ run_of octo_rows)
  octo_coax_determined = equal_determined

  pub mix_hex_x_determined : Determined (Allocated hex_rows (wrench w))
  mix_hex_x_determined = multi_determined.mix_hex_x_determined x run before (wrench w)

  pub mix_octo_coax_determined : Determined (Allocated octo_rows (wrench w))
  mix_octo_coax_determined = multi_determined.mix_octo_coax_determined x run before (wrench w)

-- ---- thrust-floor by rows

module _ (run w before : List Float) (floor held : Float) where
  -- the number, what the outputs are afterwards, and what is stored for a scale
  pub mixer_mix_thrust_floor_determined : (n m : ℕ) (after other : List Float) (scale stood : Float)
      → FlooredAs run (wrench w) floor before held n after scale
      → FlooredAs run (wrench w) floor before held m other stood
      → (n ≡ m) × (after ≡ other) × (scale ≡ stood)
  mixer_mix_thrust_floor_determined n m after other scale stood h k =
      let one =
      floor_determined.mix_determined (wrench w) floor run before h.answer k.answer after other h.mixed
      k.mixed in (
        h.number_is ∙ ap floor_number one.0 ∙ sym k.number_is,
        one.1,
        h.scale_is ∙ ap (λ (answer : FloorAnswer). stored answer held) one.0 ∙ sym k.scale_is,
      )

  -- the motors, and the scale that is answered
  pub mix_thrust_floor_determined : (rows : List Row) (motors others : List Float) (scale other : Float)
      → Floored rows (wrench w) floor motors scale
      → Floored rows (wrench w) floor others other
      → (motors ≡ others) × (scale ≡ other)
  mix_thrust_floor_determined rows = floor_determined.floored_determined rows (wrench w) floor

-- ---- the sheet: numbers that are answered, then numbers that are stored

module _ (s : List ℕ) (n m i j : ℕ) where
  pub sheet_check_determined : told n i ≡ judged s → told m j ≡ judged s → (n ≡ m) × (i ≡ j)
  sheet_check_determined h k = same_told n m i j (h ∙ sym k)

  -- here n and m are lengths, and i and j offsets, of the body of entry e
  pub sheet_body_determined : (e : ℕ)
      → (n ≡ length (handed_back s e)) × (i ≡ handed_at s e)
      → (m ≡ length (handed_back s e)) × (j ≡ handed_at s e)
      → (n ≡ m) × (i ≡ j)
  sheet_body_determined e h k = (equal_determined n m h.0 k.0, equal_determined i j h.1 k.1)

  -- and the state and the output
  pub sheet_run_determined : (before : QuadMixer) (out : List ℕ) (after other : QuadMixer) (written put : List ℕ)
      → RanAs s before out n i after written
      → RanAs s before out m j other put
      → (n ≡ m) × (i ≡ j) × (after ≡ other) × (written ≡ put)
  sheet_run_determined before out after other written put h k =
      let one =
      run_determined s before out h.verdict k.verdict after other written put h.ran k.ran in
      let numbers = same_told n m i j (h.told_is ∙ ap told_by one.0 ∙ sym k.told_is) in
      (numbers.0, numbers.1, one.1, one.2)

-- How the output grows: float after float within an answer, and answer after answer. Assumes nothing.
use mathlib.Core.Path.{◌≡◌, refl, sym, ap}
use mathlib.Core.List.{List, [], ◌∷◌, ◌++◌, append-nil, append_assoc}
use Prim.Native.Nat.{ℕ, ◌+◌, ◌*◌, ◌≤◌}
use native.Mathlib.Nat.{zero-add}
use native.Mathlib.Omega.{arith}
use lib.ListN.{length, get_or, length-append}
use lib.Ieee.{Float, nan, binary32, to_bits}
use Rattle.wire.specs.Bytes.{bytes_of, write_at}
use Rattle.wire.proofs.LittleEndian.{bytes_of_length, write_at_append}
use Rattle.rules.specs.Rows.{quad_rows}
use Rattle.general.proofs.Four.{four}
use Rattle.rules.proofs.Count.{plain_count, thrust_floor_count, priority_count, airmode_count, rotor_out_count}
use Rattle.quad.specs.declared.QuadMixer.{QuadMixer}
use Rattle.entries.specs.declared.command.Command.{Command}
use Rattle.entries.specs.declared.command.Command.TheVariants.{Plain, ThrustFloor, Priority, Airmode, RotorOut}
use Rattle.sheet_run.specs.Run.{called, float_bytes, answer_of, answers_of}

-- four bytes for each float
pub floats_length : (xs : List Float) → length (float_bytes xs) ≡ 4 * length xs
unfolding float_bytes
floats_length [] = refl
floats_length (x ∷ xs) = rw (length-append, bytes_of_length, floats_length xs) (omega arith)

one_float : (x : Float) → float_bytes (x ∷ []) ≡ bytes_of 4 (to_bits binary32 x)
unfolding float_bytes
one_float x = append-nil _

-- a NaN is 7fc00000
pub nan_written : float_bytes (nan ∷ []) ≡ 0x00 ∷ 0x00 ∷ 0xc0 ∷ 0x7f ∷ []
unfolding float_bytes bytes_of to_bits
nan_written = refl

-- one float more
floats_more : (xs : List Float) (x : Float)
    → float_bytes (xs ++ (x ∷ [])) ≡ float_bytes xs ++ bytes_of 4 (to_bits binary32 x)
unfolding float_bytes
floats_more [] x = one_float x
floats_more (y ∷ xs) x = rw (floats_more xs x, append_assoc)

-- a float written after floats
pub float_written : (out : List ℕ) (xs : List Float) (x : Float) → 4 * length xs + 4 ≤ length out
    → write_at (write_at out 0 (float_bytes xs)) (4 * length xs) (bytes_of 4 (to_bits binary32 x))
    ≡ write_at out 0 (float_bytes (xs ++ (x ∷ [])))
float_written out xs x h =
    let size : 0 + length (float_bytes xs) ≡ 4 * length xs = rw (zero-add, floats_length) in
    let room : 0 + length (float_bytes xs) + length (bytes_of 4 (to_bits binary32 x)) ≤ length out =
    rw (bytes_of_length, size) h in
    rw (← size, floats_more) (write_at_append out 0 (float_bytes xs) (bytes_of 4 (to_bits binary32 x)) room)

-- ---- an answer

-- a mix gives four motors
called_four : (q : QuadMixer) (c : Command) → length (called q c).last_motors ≡ 4
unfolding called quad_rows
called_four q (Plain d) = plain_count quad_rows d.torque d.thrust
called_four q (ThrustFloor d floor) = thrust_floor_count quad_rows d.torque d.thrust floor
called_four q (Priority d floor) = priority_count quad_rows d.torque d.thrust floor
called_four q (Airmode d floor) = airmode_count quad_rows d.torque d.thrust floor
called_four q (RotorOut failed d floor) = rotor_out_count failed d.torque d.thrust floor

-- so an answer has 20 bytes
pub answer_length : (q : QuadMixer) (c : Command) → length (answer_of (called q c)) ≡ 20
answer_length q c = rw (floats_length, length-append, called_four)

pub answers_length : (q : QuadMixer) (cs : List Command) → length (answers_of q cs) ≡ 20 * length cs
unfolding answers_of
answers_length q [] = refl
answers_length q (c ∷ cs) = rw (length-append, answer_length, answers_length (called q c) cs) (omega arith)

-- four motors and a scale, written one after another
pub five_written : (out : List ℕ) {o1 o2 o3 o4 o5 : List ℕ} (m : List Float) (scale : Float) → length m ≡ 4
    → 20 ≤ length out
    → o1 ≡ write_at out 0 (bytes_of 4 (to_bits binary32 (get_or m 0 nan)))
    → o2 ≡ write_at o1 4 (bytes_of 4 (to_bits binary32 (get_or m 1 nan)))
    → o3 ≡ write_at o2 8 (bytes_of 4 (to_bits binary32 (get_or m 2 nan)))
    → o4 ≡ write_at o3 12 (bytes_of 4 (to_bits binary32 (get_or m 3 nan)))
    → o5 ≡ write_at o4 16 (bytes_of 4 (to_bits binary32 scale))
    → o5 ≡ write_at out 0 (float_bytes (m ++ (scale ∷ [])))
five_written out m scale count room e1 e2 e3 e4 e5 =
    let a = get_or m 0 nan in
    let b = get_or m 1 nan in
    let c = get_or m 2 nan in
    let d = get_or m 3 nan in
    rw (
      e5,
      e4,
      e3,
      e2,
      e1,
      ← one_float a,
      float_written out (a ∷ []) b (omega arith),
      float_written out (a ∷ b ∷ []) c (omega arith),
      float_written out (a ∷ b ∷ c ∷ []) d (omega arith),
      float_written out (a ∷ b ∷ c ∷ d ∷ []) scale (omega arith),
    )
    (ap (λ (l : List Float). write_at out 0 (float_bytes (l ++ (scale ∷ [])))) (sym (four m count)))

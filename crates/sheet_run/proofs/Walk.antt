-- The run one command at a time: what is left of it, from the state and the place reached, gives the whole. Assumes
-- nothing.
use mathlib.Core.Path.{◌≡◌, refl, sym, ap}
use mathlib.Core.List.{List, [], ◌∷◌}
use Prim.Native.Nat.{ℕ, zero, suc, ◌+◌, ◌-◌, ◌*◌, ◌≤◌, ◌<◌}
use native.Mathlib.Numerals.{add-one}
use native.Mathlib.Omega.{arith}
use lib.ListN.{length}
use Rattle.wire.specs.Bytes.{write_at}
use Rattle.wire.proofs.LittleEndian.{write_at_append, write_at_nothing}
use Rattle.quad.specs.declared.QuadMixer.{QuadMixer}
use Rattle.entries.specs.Entry.{command_at}
use Rattle.sheet.proofs.Walk.{one_less}
use Rattle.sheet_run.specs.Run.{called, commands_from, ran, answer_of, answers_of}
use Rattle.sheet_run.proofs.AnswerBytes.{answer_length, answers_length}

-- as many commands as entries
pub commands_length : (s : List ℕ) (i left : ℕ) → length (commands_from s i left) ≡ left
unfolding commands_from
commands_length s i zero = refl
commands_length s i (suc left) = ap suc (commands_length s (suc i) left)

module _ (s : List ℕ) (q : QuadMixer) (i k : ℕ) (under : i < k) where
  -- the next command, and those after it
  next_command : commands_from s i (k - i) ≡ command_at s i ∷ commands_from s (i + 1) (k - (i + 1))
  unfolding commands_from
  next_command = rw (one_less i k, add-one)

  pub ran_more : ran q (commands_from s i (k - i))
      ≡ ran (called q (command_at s i)) (commands_from s (i + 1) (k - (i + 1)))
  unfolding ran
  ran_more = rw next_command

  -- the next answer in its place, and those after it
  pub written_more : (out : List ℕ) → 20 * k ≤ length out
      → write_at out (20 * i) (answers_of q (commands_from s i (k - i)))
      ≡ write_at (write_at out (20 * i) (answer_of (called q (command_at s i)))) (20 * (i + 1))
      (answers_of (called q (command_at s i)) (commands_from s (i + 1) (k - (i + 1))))
  unfolding answers_of
  written_more out room =
      let after = called q (command_at s i) in
      let rest = commands_from s (i + 1) (k - (i + 1)) in
      let size = answer_length q (command_at s i) in
      let place : 20 * i + length (answer_of after) ≡ 20 * (i + 1) = rw size (omega arith) in
      let both : 20 * i + length (answer_of after) + length (answers_of after rest) ≤ length out =
      rw (size, answers_length, commands_length) (omega arith) in
      rw (next_command, ← place) (sym (write_at_append out (20 * i) (answer_of after) (answers_of after rest) both))

-- after the last command nothing is left
module _ (s : List ℕ) (q : QuadMixer) (i k : ℕ) (last : i ≡ k) where
  none_left : commands_from s i (k - i) ≡ []
  unfolding commands_from
  none_left = let none : k - i ≡ 0 = omega arith in rw none

  pub ran_all : ran q (commands_from s i (k - i)) ≡ q
  unfolding ran
  ran_all = rw none_left

  pub written_all : (out : List ℕ) → write_at out (20 * i) (answers_of q (commands_from s i (k - i))) ≡ out
  unfolding answers_of
  written_all out = rw none_left (write_at_nothing out (20 * i))

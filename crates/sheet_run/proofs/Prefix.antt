-- The answer of entry i depends on the first i + 1 commands and the state alone: the answers of some commands, and more
-- after them, begin with the answers of those some. Assumes nothing.
use mathlib.Core.Path.{◌≡◌, refl}
use mathlib.Core.List.{List, [], ◌∷◌, ◌++◌, append_assoc}
use Prim.Native.Nat.{ℕ, zero, suc, ◌+◌, ◌-◌, ◌*◌, ◌≤◌}
use native.Mathlib.Nat.{zero-add, suc-add, add-suc, add-zero}
use native.Mathlib.Omega.{arith}
use lib.ListN.{length, take}
use lib.Seq.{take_at}
use Rattle.quad.specs.declared.QuadMixer.{QuadMixer}
use Rattle.entries.specs.declared.command.Command.{Command}
use Rattle.entries.specs.Layout.{count_of}
use Rattle.sheet_run.specs.Run.{called, commands_from, commands_of, ran, answers_of}
use Rattle.sheet_run.proofs.AnswerBytes.{answers_length}
use Rattle.sheet_run.proofs.Walk.{commands_length}

-- ---- any commands

-- the later answers start from the state that the earlier commands leave
pub answers_append : (q : QuadMixer) (cs ds : List Command)
    → answers_of q (cs ++ ds) ≡ answers_of q cs ++ answers_of (ran q cs) ds
unfolding answers_of ran
answers_append q [] ds = refl
answers_append q (c ∷ cs) ds = rw (answers_append (called q c) cs ds, append_assoc)

pub answers_first : (q : QuadMixer) (cs ds : List Command)
    → take (20 * length cs) (answers_of q (cs ++ ds)) ≡ answers_of q cs
answers_first q cs ds =
    rw answers_append (take_at (answers_of q cs) (answers_of (ran q cs) ds) (20 * length cs) (answers_length q cs))

-- ---- a sheet's commands

commands_split : (s : List ℕ) (i n left : ℕ)
    → commands_from s i (n + left) ≡ commands_from s i n ++ commands_from s (i + n) left
unfolding commands_from
commands_split s i zero left = rw (zero-add, add-zero)
commands_split s i (suc n) left = rw (suc-add, commands_split s (suc i) n left, add-suc, suc-add)

-- the answers of the first n entries are those of the first n commands
pub answers_of_first : (s : List ℕ) (q : QuadMixer) (n : ℕ) → n ≤ count_of s
    → take (20 * n) (answers_of q (commands_of s)) ≡ answers_of q (commands_from s 0 n)
answers_of_first s q n h =
    let all : n + (count_of s - n) ≡ count_of s = omega arith in
    let cut = commands_split s 0 n (count_of s - n) in
    let split : commands_of s ≡ commands_from s 0 n ++ commands_from s (0 + n) (count_of s - n) = rw all at cut in
    let size = commands_length s 0 n in
    rw split (rw size at (answers_first q (commands_from s 0 n) (commands_from s (0 + n) (count_of s - n))))

-- Running commands is calling the quad's methods one after another: whatever states satisfy the methods' contracts, the
-- last is the run's, and their answers are those that the run writes. Assumes nothing.
use mathlib.Core.Path.{◌≡◌, refl, ap}
use mathlib.Core.List.{List, [], ◌∷◌, ◌++◌}
use Prim.Native.Nat.{ℕ}
use Rattle.quad.specs.declared.QuadMixer.{QuadMixer}
use Rattle.entries.specs.declared.command.Command.{Command}
use Rattle.entries.specs.declared.command.Command.TheVariants.{Plain, ThrustFloor, Priority, Airmode, RotorOut}
use Rattle.sheet_run.specs.Run.{called, Gives, ran, answer_of, answers_of}

-- what a method gives is the state of the rule
pub gives_called : (q : QuadMixer) (c : Command) (r : QuadMixer) → Gives q c r → r ≡ called q c
unfolding called Gives
gives_called q (Plain d) last m = m.is
gives_called q (ThrustFloor d floor) last m = m.is
gives_called q (Priority d floor) last m = m.is
gives_called q (Airmode d floor) last m = m.is
gives_called q (RotorOut failed d floor) last m = m.is

-- calling the methods of commands in their order leads from a state to a last one, and these are the bytes of the
-- states on the way
pub data InTurn : QuadMixer → List Command → QuadMixer → List ℕ → Type 0 where
  none : {q : QuadMixer} → InTurn q [] q []
  more : {q r last : QuadMixer} {c : Command} {cs : List Command} {bytes : List ℕ} → Gives q c r
      → InTurn r cs last bytes → InTurn q (c ∷ cs) last (answer_of r ++ bytes)

pub in_turn_ran : {q last : QuadMixer} {cs : List Command} {bytes : List ℕ} → InTurn q cs last bytes
    → (last ≡ ran q cs) × (bytes ≡ answers_of q cs)
unfolding ran answers_of
in_turn_ran none = (refl, refl)
in_turn_ran (more {q} {r} {c} m rest) =
    let is = gives_called q c r m in
    let after = in_turn_ran rest in
    (rw (← is) after.0, rw (← is) (ap (λ (b : List ℕ). answer_of r ++ b) after.1))

-- Each public contract determines its answer, and that of `run` the state and every byte of the output too: two results
-- that satisfy it are one. Assumes nothing.
use mathlib.Core.Path.{◌≡◌, sym, ap, ◌∙◌}
use mathlib.Core.List.{List}
use Prim.Native.Nat.{ℕ}
use Rattle.general.proofs.Determined.{Determined, equal_determined}
use Rattle.quad.specs.declared.QuadMixer.{QuadMixer}
use Rattle.entries.specs.declared.command.Command.{Command}
use Rattle.std.specs.declared.result.Result.{Result}
use Rattle.std.specs.declared.result.Result.TheVariants.{Ok, Err}
use Rattle.sheet.specs.declared.Refused.{Refused}
use Rattle.sheet.proofs.Determined.{verdict_tells}
use Rattle.sheet_run.specs.Run.{Gives, Ran, verdict_of, state_after}
use Rattle.sheet_run.proofs.Methods.{gives_called}

pub call_determined : (q : QuadMixer) (c : Command) → Determined (Gives q c)
call_determined q c r p h k = equal_determined r p (gives_called q c r h) (gives_called q c p k)

pub run_determined : (s : List ℕ) (before : QuadMixer) (out : List ℕ) (v w : Result Unit Refused)
    (after other : QuadMixer) (written put : List ℕ)
    → Ran s before out v after written → Ran s before out w other put → (v ≡ w) × (after ≡ other) × (written ≡ put)
run_determined s before out v w after other written put h k = (
  verdict_tells v w (h.told ∙ sym k.told),
  equal_determined after other h.state k.state,
  equal_determined written put h.output k.output,
)

-- and so does the answer itself, which has the state afterwards where the sheet is accepted
pub run_answer_determined : (s : List ℕ) (before : QuadMixer) (out : List ℕ) (a b : Result QuadMixer Refused)
    (written put : List ℕ)
    → Ran s before out (verdict_of a) (state_after before a) written
    → Ran s before out (verdict_of b) (state_after before b) put
    → (a ≡ b) × (written ≡ put)
run_answer_determined s before out a b written put h k =
    let one = run_determined s before out (verdict_of a) (verdict_of b) _ _ written put h k in
    (same a b one.0 one.1, one.2)
  where
    same : (a b : Result QuadMixer Refused) → verdict_of a ≡ verdict_of b → state_after before a ≡ state_after before b
        → a ≡ b
    same (Ok q) (Ok r) v e = ap Ok e
    same (Err q) (Err r) v e = let is : q ≡ r = cc in ap Err is
    same (Ok q) (Err r) v e = cc
    same (Err q) (Ok r) v e = cc

-- What a caller has of a function whose result is of the type Z: called, it hands back the tokens of its lifetimes, and
-- gives a z of which its contract says Says z. The function's contract has no more than that to say: no parameter of it
-- is at another value afterwards. Assumes nothing.
use mathlib.Core.Path.{◌≡◌, sym, subst}
use Prim.Native.Nat.{ℕ}
use mathlib.Core.List.{List, [], ◌∷◌}
use seplogic.Ra.Ura.{Ura}
use mir.Syntax.{Callee as Name}
use mir.Val.{Val}
use base.Logic.{SProp, ent, sep, ex, guard, via, ex_e, snd∗, id⊢}
use prog.Wp.{Calls}
use types.Logic.{Logic, sem}
use contract.Monad.{fact}
use contract.Lifetimes.{Lfts, Shares, toks}
use types.Kit.{‵, raw, ◌⊛◌, ◌$◌, ◌∵◌, !, qed, move, use1, split, join}
use types.Kit.{later, some, updating, await, pick, now as at_once, show, check, done}
use denote.RattleType.{RattleType, Denots, Valss}
use denote.Signature.{Slot, plain, types_at}
use denote.Steps.{heard}
use denote.Triple.Clauses.{Clauses, Ended, AtExit, at_exit, lasts, ensured as ensures_of, closing}
use denote.Triple.End.{Kepts}
use denote.Triple.Statement.{Contract, Triple}
use denote.Triple.Spec.{triple_of}

-- called at the ghost value x of its contract, it gives a z that Says holds of, and hands `back` back
module _ {M : Type 1} {𝓤 : Ura M} (𝓛 : Logic 𝓤) (Z : RattleType) where
  open 𝓛 use {H}

  abbrev pub HandsBack : (c : Contract 𝓤) → c.Ghost → (Z.Denot → Type 0) → SProp 𝓤 → Type 1
  HandsBack c x Says back =
      (v : Val) → ent 𝓤 (c.post x v)
      (H.⇛ (ex 𝓤 (λ (z : Z.Denot). guard 𝓤 (Says z) (sep 𝓤 (sem 𝓛 (Z.own_val z (v ∷ []))) back))))

-- What a walk has to have of the function f that it calls, on the machine values vs: that it meets a contract, which
-- asks for P there, says Says of the z that it gives, and hands `back` back.
pub record Called {M : Type 1} {𝓤 : Ura M} (𝓛 : Logic 𝓤) (Z : RattleType) (C : Calls 𝓤 𝓛.H) (f : Name)
    (vs : List Val) (P : SProp 𝓤) (Says : Z.Denot → Type 0) (back : SProp 𝓤) : Type 2 where
  pub contract : Contract 𝓤
  pub met : Triple 𝓤 (C f) contract
  pub ghost : contract.Ghost
  pub takes : vs ≡ contract.args ghost
  pub asks : ent 𝓤 P (contract.pre ghost)
  pub gives : HandsBack 𝓛 Z contract ghost Says back

-- a function of n lifetimes with no bounds on them
module _ (Z : RattleType) (n : ℕ) (ss : List (Slot n)) (ks : Kepts ss) where
  abbrev pub giving : Ended
  giving = record {
    signature = record { lifetimes = n; outlives = []; params = ss; result = plain (λ κs. Z) };
    kept = ks;
  }

  module _ {M : Type 1} {𝓤 : Ura M} (𝓛 : Logic 𝓤) (c : Clauses 𝓤 giving) where
    abbrev pub Callee : Contract 𝓤
    Callee = triple_of 𝓛 giving.signature (closing 𝓛 giving c)

    pub hands_back : (κs : Lfts n) (qs : Shares n) (a : Denots (types_at ss κs)) (vss : Valss (types_at ss κs))
        (ghost : (c κs a).ghost) (Says : Z.Denot → Type 0)
        → ((z : Z.Denot) (e : AtExit giving κs) → (c κs a).ensures ghost z e ≡ fact 𝓤 (Says z))
        → HandsBack 𝓛 Z Callee ((κs, qs, tt, a, vss), ghost) Says (toks 𝓛 n κs qs)
    hands_back κs qs a vss ghost Says says v =
        qed 𝓛 (later (some (λ (z : Z.Denot). (raw (toks 𝓛 n κs qs) ⊛ ‵ (Z.own_val z (v ∷ [])))
        ⊛ raw (ensures_of 𝓛 giving c κs a ghost z))) ∷ []) ∵
        updating ! $ await ! tt $ pick ! (λ z.
        split ! $ move ! (1 ∷ []) $ use1 𝓛 (raw (fact 𝓤 (Says z))) (ex_e 𝓤 _ (λ ws.
        via 𝓤 _ (snd∗ 𝓤 (sem 𝓛 (lasts giving κs a ws)) _)
        (subst (λ (P : SProp 𝓤). ent 𝓤 P (fact 𝓤 (Says z))) (sym (says z (at_exit giving κs a ws))) (id⊢ 𝓤 _)))) $
        heard ! (Says z) (λ e. split ! $ move ! (1 ∷ 0 ∷ []) $ join ! $ at_once ! $
        show ! (λ (y : Z.Denot). guard 𝓤 (Says y) (sep 𝓤 (sem 𝓛 (Z.own_val y (v ∷ []))) (toks 𝓛 n κs qs))) z $
        check ! e $ done !))

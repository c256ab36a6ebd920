-- A function `f(s: &mut T, ..)` that returns nothing, by its contract: it meets it where its code, from the lent struct
-- and the other parameters, ends with the borrow shut at a struct that the contract says (`loan_meets`). Assumes
-- nothing.
use mathlib.Core.Path.{◌≡◌, refl, sym, subst}
use Prim.Native.Nat.{ℕ, suc}
use mathlib.Core.List.{List, [], ◌∷◌}
use seplogic.Ra.Ura.{Ura}
use mir.Syntax.{Fn, named}
use mir.Val.{Val, vptr, vunit}
use base.Logic.{SProp, ent, sep, emp, via, fst∗}
use base.Fml.{flft, fobs, fbor}
use prog.Wp.{Heap, WpFn, Tables}
use types.Logic.{Logic, sem}
use contract.Monad.{fact, fact_i}
use contract.Lifetimes.{Lfts, Shares, toks}
use types.Kit.{‵, raw, ◌⊛◌, ◌$◌, ◌∵◌, !, qed, by, move, drop, use0, split, join, fsplit, fsplit3, fjoin, fjoin3}
use types.Kit.{feq_i, suffices, done}
use types.SemTy.{Body as Held}
use sound.WpLaws.{WpFn-mono}
use denote.RattleType.{Denots, Valss, flat, owns}
use denote.Laws.{Ises, Are, valss}
use denote.Memory.{mem}
use denote.Builtin.{unit, RefMutOf}
use denote.Exit.{yes}
use denote.Ref.{MutBor, MutRef, mut_vals, mut_Tells}
use denote.Signature.{plain}
use denote.Struct.Declared.{Declared, row}
use denote.Struct.Laws as LL
use denote.Triple.Entry.{on_entry}
use denote.Triple.Clauses.{Clauses, Ended, at_exit, closing}
use denote.Triple.End.{Fins, all}
use denote.Triple.Spec.{Meets}
use denote.Triple.Walked.{Stays, stay_ref, has_of, walk_of, Goes-ref, ends_at, walked, walk_Meets}
use Rattle.lent.proofs.Extras.{Typed, values}
use Rattle.lent.proofs.PassedOn.{PassedOn, mirs, slots, rows, spelled, told, machine, in_a_row, typed}
use Rattle.lent.proofs.PassedOn.{lasting, dropped, fits, had, go_dropped}
use Rattle.lent.proofs.Walk.{Ends}

module _ (T : Declared) {n : ℕ} (ps : List (PassedOn n)) where
  abbrev pub on_loan : Ended
  on_loan = record {
    signature = record {
      lifetimes = suc n;
      outlives = [];
      params = RefMutOf (0 ∷ []) tt (plain (λ κs. row T)) (λ κs. tt) ∷ slots ps;
      result = plain (λ κs. unit);
    };
    kept = (yes, all yes (slots ps));
  }

  abbrev stayed : Stays on_loan.signature.params on_loan.kept
  stayed = (stay_ref (0 ∷ []) tt (plain (λ κs. row T)), dropped ps)

-- the tokens of the other parameters' lifetimes; and what these parameters own, with them
module _ (n : ℕ) {M : Type 1} {𝓤 : Ura M} (𝓛 : Logic 𝓤) (κs : Lfts (suc n)) (qs : Shares (suc n)) where
  abbrev pub tokens : SProp 𝓤
  tokens = toks 𝓛 n κs.1 qs.1

  abbrev pub passing : (H : Heap 𝓤) (ps : List (PassedOn n)) → Denots (rows κs ps) → SProp 𝓤
  passing H ps a = sep 𝓤 (sem 𝓛 (owns (rows κs ps) a (valss (rows κs ps) (spelled κs ps) a))) tokens

-- c is the contract, which says Says κs x a r of the struct x that was lent, the other parameters a and the struct r
-- after
module _ (T : Declared) (L : LL.Laws T) {n : ℕ} (ps : List (PassedOn n)) {M : Type 1} {𝓤 : Ura M} (𝓛 : Logic 𝓤)
    (c : Clauses 𝓤 (on_loan T ps))
    (Says : (κs : Lfts (suc n)) → MutBor T.D → Denots (rows κs ps) → T.D → Type 0)
    (updates : (κs : Lfts (suc n)) (x : MutBor T.D) (a : Denots (rows κs ps)) (g : (c κs (x, a)).ghost)
    (ws : Fins κs (slots ps) (all yes (slots ps)) a) (r : T.D)
    → (c κs (x, a)).ensures g tt (at_exit (on_loan T ps) κs (x, a) (r, ws)) ≡ fact 𝓤 (Says κs x a r)) where
  open 𝓛 use {H, A}

  module _ (κs : Lfts (suc n)) (qs : Shares (suc n)) (x : MutBor T.D) (a : Denots (rows κs ps)) where
    -- what its code has to show
    abbrev pub Walked : Fn → Tables 𝓤 H → Type 2
    Walked f 𝓣 =
        (Kf : Val → SProp 𝓤)
        → Ends T L 𝓛 κs.0 qs.0 x.ghost_name x.ref_ptr.0 x.ref_ptr.1 (Says κs x a) (tokens n 𝓛 κs qs) Kf
        → Typed (mirs ps) (machine κs ps a)
        → ent 𝓤 (sep 𝓤 (A.obs x.ghost_name ((row T).coded.code x.now))
        (sep 𝓤 (A.bor κs.0 (Held (mem (row T)) x.ref_ptr.0 x.ref_ptr.1 x.ghost_name))
        (sep 𝓤 (A.lft κs.0 qs.0) (passing n 𝓛 κs qs H ps a))))
        (WpFn 𝓤 H 𝓣.C 𝓣.Λ f (vptr x.ref_ptr.0 x.ref_ptr.1 ∷ values (mirs ps) (machine κs ps a)) Kf)

    module _ (g : (c κs (x, a)).ghost) where
      abbrev vss : Valss (rows κs ps)
      vss = valss (rows κs ps) (spelled κs ps) a

      abbrev Post : Val → SProp 𝓤
      Post =
          (walk_of 𝓛 (on_loan T ps) (stayed T ps) c).post
          ((κs, qs, tt, (x, a), (vptr x.ref_ptr.0 x.ref_ptr.1 ∷ [], vss)), g)

      exits : Ends T L 𝓛 κs.0 qs.0 x.ghost_name x.ref_ptr.0 x.ref_ptr.1 (Says κs x a)
          (tokens n 𝓛 κs qs) Post
      exits r e =
          qed 𝓛 (‵ (fobs x.ghost_name ((row T).coded.code r))
          ∷ ‵ (fbor κs.0 (Held (mem (row T)) x.ref_ptr.0 x.ref_ptr.1 x.ghost_name)) ∷ ‵ (flft κs.0 qs.0)
          ∷ raw (tokens n 𝓛 κs qs) ∷ []) ∵
          suffices ! _ (ends_at 𝓛 (on_loan T ps) (stayed T ps) c
          ((κs, qs, tt, (x, a), (vptr x.ref_ptr.0 x.ref_ptr.1 ∷ [], vss)), g)
          vunit tt (r, lasting κs ps a) (tt, fits κs ps a (lasting κs ps a))) $
          move ! (2 ∷ 3 ∷ []) $ join ! $
          feq_i ! (List Val) (vptr x.ref_ptr.0 x.ref_ptr.1 ∷ []) (vptr x.ref_ptr.0 x.ref_ptr.1 ∷ []) refl $
          move ! (0 ∷ 2 ∷ 3 ∷ []) $ fjoin3 ! $
          use0 𝓛 (‵ (has_of κs (slots ps) (all yes (slots ps)) (dropped ps) a (lasting κs ps a) vss))
          (had 𝓛 κs ps a (lasting κs ps a) vss) $ move ! (1 ∷ 0 ∷ []) $ fjoin ! $
          feq_i ! (List Val) (vunit ∷ []) (vunit ∷ []) refl $
          move ! (1 ∷ 0 ∷ []) $ join ! $ move ! (1 ∷ 0 ∷ []) $ join ! $
          use0 𝓛 (raw ((c κs (x, a)).ensures g tt (at_exit (on_loan T ps) κs (x, a) (r, lasting κs ps a))))
          (subst (λ (P : SProp 𝓤). ent 𝓤 (emp 𝓤) P) (sym (updates κs x a g (lasting κs ps a) r)) (fact_i 𝓤 _ _ e)) $
          move ! (1 ∷ 0 ∷ []) $ done !

      enters : (f : Fn) (𝓣 : Tables 𝓤 H) → Walked f 𝓣 → Are (rows κs ps) (Ises (rows κs ps)) a vss
          → ent 𝓤 (on_entry 𝓛 (on_loan T ps).signature κs qs (x, a) (vptr x.ref_ptr.0 x.ref_ptr.1 ∷ [], vss))
          (WpFn 𝓤 H 𝓣.C 𝓣.Λ f (vptr x.ref_ptr.0 x.ref_ptr.1 ∷ flat (rows κs ps) vss) Post)
      enters f 𝓣 walk are =
          subst (λ (us : List Val).
          ent 𝓤 (on_entry 𝓛 (on_loan T ps).signature κs qs (x, a) (vptr x.ref_ptr.0 x.ref_ptr.1 ∷ [], vss))
          (WpFn 𝓤 H 𝓣.C 𝓣.Λ f (vptr x.ref_ptr.0 x.ref_ptr.1 ∷ us) Post)) (in_a_row κs ps a)
          (qed 𝓛 ((‵ (flft κs.0 qs.0) ⊛ raw (tokens n 𝓛 κs qs))
          ∷ ‵ (owns (MutRef (named 0) κs.0 (row T) ∷ rows κs ps) (x, a)
          (vptr x.ref_ptr.0 x.ref_ptr.1 ∷ [], vss)) ∷ []) ∵
          split ! $ move ! (2 ∷ []) $ fsplit ! $ fsplit3 ! $ drop ! $ move ! (2 ∷ 4 ∷ []) $ join ! $
          move ! (1 ∷ 2 ∷ 3 ∷ 0 ∷ []) $ by ! (walk Post exits (typed κs 𝓛 ps a are)))

  pub loan_meets : (f : Fn) (𝓣 : Tables 𝓤 H)
      → ((κs : Lfts (suc n)) (qs : Shares (suc n)) (x : MutBor T.D) (a : Denots (rows κs ps)) → Walked κs qs x a f 𝓣)
      → Meets 𝓛 (on_loan T ps).signature (WpFn 𝓤 H 𝓣.C 𝓣.Λ f) (closing 𝓛 (on_loan T ps) c)
  loan_meets f 𝓣 walks =
      walk_Meets 𝓛 (on_loan T ps) (stayed T ps)
      (Goes-ref 𝓛 (suc n) 0 tt (plain (λ κs. row T)), go_dropped 𝓛 ps) c
      (WpFn 𝓤 H 𝓣.C 𝓣.Λ f) (WpFn-mono 𝓤 H 𝓛.laws 𝓣 f)
      (walked 𝓛 (on_loan T ps) (stayed T ps) c (WpFn 𝓤 H 𝓣.C 𝓣.Λ f)
      (λ κs. (mut_vals, spelled κs ps)) (λ κs. (mut_Tells (named 0) κs.0 (row T), told κs ps))
      (λ κs qs bounds a g are. via 𝓤 _ (fst∗ 𝓤 _ ((c κs a).requires g))
      (enters κs qs a.0 a.1 g f 𝓣 (walks κs qs a.0 a.1) are.1)))

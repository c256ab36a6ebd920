-- A reader by value, over a struct that is lent to be read: where `g(s: T) -> Z` meets its contract, the function
-- `f(s: &T) -> Z` that calls it meets the same contract (`reads`), for any plain Z. T is any declared type that can be
-- copied. Assumes nothing.
use mathlib.Core.Path.{◌≡◌, refl, sym, subst}
use Prim.Native.Nat.{ℕ, zero}
use mathlib.Core.List.{List, [], ◌∷◌}
use seplogic.Ra.Ura.{Ura}
use mir.Syntax.{Callee as Name, Body, Ty, Fn, local, value_local, ty_ref, named, imm}
use mir.Syntax.{place, deref, copy, rv_opd, assign, call, seq, return}
use mir.Val.{Val, vptr}
use base.Logic.{SProp, ent, sep, emp, via, fst∗, id⊢}
use base.Fml.{Lft, Share, ftrue, flft}
use prog.Model.{Model}
use prog.Routine.{Env as Routines, Routine}
use prog.Wp.{Calls, Loops, WpFn, Tables, Closed, Env, spot_of}
use types.Logic.{Logic, sem}
use contract.Monad.{fact, fact_i}
use contract.Lifetimes.{Lfts}
use contract.Running.{Running, tables, tables_of}
use types.Kit.{Item, ‵, raw, some, given, later, Seq, runs, at_ret, ◌⊛◌, ◌$◌, ◌∵◌, !, Go, qed, by, move, keep}
use types.Kit.{drop, use0, use1, split, join, fsplit, fjoin, await, pick, learn}
use types.Kit.{suffices, done}
use types.Run.{Opds, look, look_raw, and_then, no_more, init, stop, hop, from, load, of_opd}
use types.Run.{assigns, land, returns, enter, alloc1, alloc0, params1, pass1, pass0, forget, free1, free0}
use sound.WpLaws.{FmC, fm_of, WpFn-mono}
use denote.RattleType.{RattleType, owns}
use denote.Laws.{Is, shows}
use denote.Memory.{lone, pointee, hidden_shr}
use denote.Builtin.{RefOf}
use denote.Exit.{yes}
use denote.Ref.{Bor, ShrRef, shr_vals, shr_Tells}
use denote.Signature.{Slot, plain}
use denote.Steps.{looks, shuts, peeks, nothing}
use denote.Struct.Declared.{Declared, row}
use denote.Struct.Field.{Field}
use denote.Struct.Steps.{spelt}
use denote.Struct.Laws as LL
use denote.Triple.Call.{calls_at}
use denote.Triple.Clauses.{Clauses, Ended, AtExit, at_exit, closing}
use denote.Triple.End.{Kepts}
use denote.Triple.Entry.{on_entry}
use denote.Triple.Spec.{Meets, triple_of}
use denote.Triple.Statement.{Contract, Triple}
use denote.Triple.Table.{entered, cited}
use denote.Triple.Walked.{Stays, stay_dropped, walk_of, Goes-dropped, ends_at, walked, walk_Meets}
use Rattle.lent.proofs.Calling.{Called, giving, Callee, hands_back}
use Rattle.lent.proofs.Extras.{at}
use Rattle.lent.proofs.PassedOn.{one_typed}
use Rattle.lent.proofs.Walk.{State, val, holds, room, owned}

-- ---- the code

module _ (T : Declared) where
  -- a struct's place that is lent to be read
  abbrev pub Shared : Ty
  Shared = ty_ref (named 0) imm (pointee (row T).written)

  -- `let q = *s; g(q)`
  abbrev pub reader : Name → Ty → Fn
  reader g ζ = record {
    lifetimes = 1;
    outlives = [];
    ty_params = [];
    givens = 0;
    params = 1;
    locals = local ζ value_local ∷ local Shared value_local ∷ local (State T) value_local ∷ [];
    body =
        seq (assign (place 2 []) (rv_opd (copy (place 1 (deref (State T) ∷ [])))))
        (seq (call g (copy (place 2 []) ∷ []) (place 0 [])) return);
  }

  -- ---- the reader by value

  abbrev taken : List (Slot 0)
  taken = plain (λ κs. row T) ∷ []

  abbrev kept : Kepts taken
  kept = (yes, tt)

  abbrev pub read : RattleType → Ended
  read Z = giving Z 0 taken kept

-- ---- a struct that is lent to be read is copied to the local j

module _ (T : Declared) (L : LL.Laws T) (cs : LL.Copyables T.parts) where
  module _ {M : Type 1} {𝓤 : Ura M} {𝓛 : Logic 𝓤} {C : Calls 𝓤 𝓛.H} {Λ : Loops 𝓤 𝓛.H}
      {E : Env 𝓤 𝓛.H} {rest : Body} {Kf : Val → SProp 𝓤} {κ : Lft} {q : Share} {p lₚ : ℕ} {π : Ty}
      {Γ : List (Item 𝓤)} where
    open 𝓛 use {H}

    pub copies_shared : (b o : ℕ) (h : T.D) {j lⱼ : ℕ} → spot_of 𝓤 H E p ≡ (π, lₚ, zero)
        → spot_of 𝓤 H E j ≡ (State T, lⱼ, zero)
        → Seq (Go {0}) 𝓛 (owned T L h ∷ ‵ (flft κ q) ∷ holds T L (State T) lⱼ (val T L h)
        ∷ holds T L π lₚ (vptr b o) ∷ Γ)
        (runs C Λ E rest (at_ret E Kf))
        → Seq (Go {0}) 𝓛 (‵ (hidden_shr (row T) κ h b o) ∷ ‵ (flft κ q) ∷ room T L (State T) lⱼ
        ∷ holds T L π lₚ (vptr b o) ∷ Γ)
        (runs C Λ E (seq (assign (place j []) (rv_opd (copy (place p (deref (State T) ∷ []))))) rest) (at_ret E Kf))
    copies_shared b o h eₚ eⱼ k =
        looks ! tt (row T) (LL.copied T cs 𝓛).opens h b o
        (λ q' vs.
        spelt ! (row T) (Is (row T)) (shows 𝓛 (row T)) (LL.vals T L) (LL.tells T L) q' h vs b o $
        move ! (1 ∷ []) $ peeks ! (row T) (Is (row T)) (shows 𝓛 (row T)) h (val T L h ∷ []) (λ was.
        use1 𝓛 (owned T L h ⊛ owned T L h) ((LL.copy T cs 𝓛).twice h (val T L h ∷ [])) $ split ! $
        -- [what the struct owns, twice; a share of its cell; what shuts it; the borrow; room; the place]
        assigns ! (of_opd ! (load ! (at ! eₚ (hop ! (look ! 6 refl) (stop !))) (look_raw ! 2 refl))) (at ! eⱼ (stop !))
        (init ! 5 refl ((LL.lawful T L 𝓛).typed h (val T L h ∷ []) was).0) $
        move ! (2 ∷ 1 ∷ 3 ∷ []) $ shuts ! tt (row T) q' h (val T L h ∷ []) b o $
        move ! (2 ∷ []) $ drop ! $ move ! (1 ∷ 0 ∷ []) $ k))

  -- ---- what a reader asks: the struct

  module _ (Z : RattleType) {M : Type 1} {𝓤 : Ura M} (𝓛 : Logic 𝓤)
      (c₀ : Clauses 𝓤 (read T Z)) (h : T.D) (ghost : (c₀ tt (h, tt)).ghost) where
    open 𝓛 use {H}

    abbrev callee : Contract 𝓤
    callee = Callee Z 0 (taken T) (kept T) 𝓛 c₀

    abbrev to_callee : callee.Ghost
    to_callee = ((tt, tt, tt, (h, tt), (val T L h ∷ [], tt)), ghost)

    asks : (c₀ tt (h, tt)).requires ghost ≡ emp 𝓤
        → ent 𝓤 (sem 𝓛 ((row T).own_val h (val T L h ∷ []))) (callee.pre to_callee)
    asks nothing_more =
        qed 𝓛 (owned T L h ∷ []) ∵ nothing ! $ move ! (1 ∷ 0 ∷ []) $ fjoin ! $ nothing ! $ join ! $
        use0 𝓛 (raw ((c₀ tt (h, tt)).requires ghost))
        (subst (λ (P : SProp 𝓤). ent 𝓤 (emp 𝓤) P) (sym nothing_more) (id⊢ 𝓤 (emp 𝓤))) $ move ! (1 ∷ 0 ∷ []) $ done !

    -- so where it meets its contract, which says Says of what it gives, a walk has what it has to have of it
    pub called : {f : Name} (C : Calls 𝓤 H) → Triple 𝓤 (C f) callee → (c₀ tt (h, tt)).requires ghost ≡ emp 𝓤
        → (Says : Z.Denot → Type 0)
        → ((z : Z.Denot) (e : AtExit (read T Z) tt) → (c₀ tt (h, tt)).ensures ghost z e ≡ fact 𝓤 (Says z))
        → Called 𝓛 Z C f (val T L h ∷ []) (sem 𝓛 ((row T).own_val h (val T L h ∷ []))) Says (emp 𝓤)
    called C met nothing_more Says says = record {
      contract = callee;
      met = met;
      ghost = to_callee;
      takes = refl;
      asks = asks nothing_more;
      gives = hands_back Z 0 (taken T) (kept T) 𝓛 c₀ tt tt (h, tt) (val T L h ∷ [], tt) ghost Says says;
    }

-- ---- answered

module _ (T : Declared) (Z : RattleType) where
  abbrev pub answering : Ended
  answering = record {
    signature = record {
      lifetimes = 1;
      outlives = [];
      params = RefOf (0 ∷ []) tt (plain (λ κs. row T)) (λ κs. tt) ∷ [];
      result = plain (λ κs. Z);
    };
    kept = (yes, tt);
  }

  abbrev answered : Stays answering.signature.params answering.kept
  answered = (stay_dropped (RefOf (0 ∷ []) tt (plain (λ κs. row T)) (λ κs. tt)) yes, tt)

module _ (T : Declared) (L : LL.Laws T) (cs : LL.Copyables T.parts) (F : Field) (l : LL.FLaws F) {M : Type 1}
    {𝓤 : Ura M} (𝓛 : Logic 𝓤) (c : Clauses 𝓤 (answering T F.row))
    (R : T.D → F.row.Denot → Type 0)
    (says : (κs : Lfts 1) (x : Bor T.D) (g : (c κs (x, tt)).ghost) (z : F.row.Denot)
    → (c κs (x, tt)).ensures g z (at_exit (answering T F.row) κs (x, tt) (tt, tt)) ≡ fact 𝓤 (R x.now z)) where
  open 𝓛 use {H, A}

  module _ (κ : Lft) (q : Share) (x : Bor T.D) (g : (c (κ, tt) (x, tt)).ghost) where
    abbrev Post : Val → SProp 𝓤
    Post =
        (walk_of 𝓛 (answering T F.row) (answered T F.row) c).post
        (((κ, tt), (q, tt), tt, (x, tt), (vptr x.ref_ptr.0 x.ref_ptr.1 ∷ [], tt)), g)

    exits : (z : F.row.Denot) (v : Val) → R x.now z
        → ent 𝓤 (sep 𝓤 (sem 𝓛 (F.row.own_val z (v ∷ []))) (A.lft κ q)) (Post v)
    exits z v e =
        qed 𝓛 (‵ (F.row.own_val z (v ∷ [])) ∷ ‵ (flft κ q) ∷ []) ∵
        suffices ! _ (ends_at 𝓛 (answering T F.row) (answered T F.row) c
        (((κ, tt), (q, tt), tt, (x, tt), (vptr x.ref_ptr.0 x.ref_ptr.1 ∷ [], tt)), g) v z (tt, tt) (tt, tt)) $
        nothing ! $ nothing ! $ fjoin ! $ move ! (1 ∷ 0 ∷ []) $ move ! (1 ∷ 0 ∷ []) $ join ! $
        nothing ! $ move ! (2 ∷ 0 ∷ []) $ join ! $ join ! $
        use0 𝓛 (raw ((c (κ, tt) (x, tt)).ensures g z (at_exit (answering T F.row) (κ, tt) (x, tt) (tt, tt))))
        (subst (λ (P : SProp 𝓤). ent 𝓤 (emp 𝓤) P) (sym (says (κ, tt) x g z)) (fact_i 𝓤 _ _ e)) $
        move ! (1 ∷ 0 ∷ []) $ done !

    walk : {f : Name} (C : Calls 𝓤 H) (Λ : Loops 𝓤 H) → FmC 𝓤 H 𝓛.laws C
        → Called 𝓛 F.row C f (val T L x.now ∷ []) (sem 𝓛 ((row T).own_val x.now (val T L x.now ∷ [])))
        (R x.now) (emp 𝓤)
        → ent 𝓤 (on_entry 𝓛 (answering T F.row).signature (κ, tt) (q, tt) (x, tt)
        (vptr x.ref_ptr.0 x.ref_ptr.1 ∷ [], tt))
        (WpFn 𝓤 H C Λ (reader T f (lone F.row.mir)) (vptr x.ref_ptr.0 x.ref_ptr.1 ∷ []) Post)
    walk {f} C Λ fm by_value =
        qed 𝓛 ((‵ (flft κ q) ⊛ ‵ ftrue)
        ∷ ‵ (owns (ShrRef (named 0) κ (row T) ∷ []) (x, tt) (vptr x.ref_ptr.0 x.ref_ptr.1 ∷ [], tt)) ∷ []) ∵
        split ! $ move ! (2 ∷ []) $ fsplit ! $ fsplit ! $ keep ! (1 ∷ 3 ∷ []) $
        -- [the shared borrow; the token]
        enter ! C Λ (reader T f (lone F.row.mir)) (vptr x.ref_ptr.0 x.ref_ptr.1 ∷ []) _ $
        alloc1 ! (λ l₀. alloc1 ! (λ l₁. alloc1 ! (λ l₂. alloc0 ! $ params1 ! $
        pass1 ! (init ! 2 refl (tt, tt)) $ pass0 ! $ move ! (6 ∷ 7 ∷ 0 ∷ 2 ∷ []) $
        copies_shared T L cs x.ref_ptr.0 x.ref_ptr.1 x.now refl refl (
        use1 𝓛 (raw (by_value.contract.pre by_value.ghost)) by_value.asks $
        calls_at ! fm by_value.contract by_value.met by_value.ghost
        (subst (Opds (Go {0}) 𝓛 _ _ _) by_value.takes
        (and_then ! (load ! (from ! (stop !)) (look ! 2 refl)) (no_more !)))
        (λ v. use1 𝓛 (later (some (λ (z : F.row.Denot). given (R x.now z) (‵ (F.row.own_val z (v ∷ [])) ⊛ ‵ ftrue))))
        (by_value.gives v) $
        await ! tt $ pick ! (λ z. learn ! (λ e. split ! $
        peeks ! F.row (Is F.row) (shows 𝓛 F.row) z (v ∷ []) (λ is.
        land ! (from ! (stop !)) (init ! 7 refl (one_typed F.row.mir v ((l.lawful 𝓛).typed z (v ∷ []) is))) $
        returns ! (look ! 7 refl) $
        forget ! 3 refl $ forget ! 4 refl $ forget ! 7 refl $ move ! (7 ∷ 8 ∷ []) $ free1 ! $ move ! (4 ∷ 6 ∷ []) $
        free1 ! $ move ! (3 ∷ 4 ∷ []) $ free1 ! $ free0 ! $ keep ! (0 ∷ 2 ∷ []) $ by ! (exits z v e)))))))))

-- ---- the theorem
-- What a proof cites is as in `Lending`. R h z is said of the struct h and of what is read of it, z.

module _ (T : Declared) (L : LL.Laws T) (cs : LL.Copyables T.parts) {M : Type 1} {𝓤 : Ura M} (𝓛 : Logic 𝓤)
    (𝓜 : Model 𝓤 𝓛.H) (𝓡 : Running 𝓤 𝓛.H 𝓜) where
  open 𝓛 use {H}

  pub reads : (F : Field) → LL.FLaws F → (f g : Name) (env : Routines)
      → Closed 𝓤 H (tables 𝓤 H 𝓜 𝓡 env).C (tables 𝓤 H 𝓜 𝓡 env).Λ f (reader T g (lone F.row.mir))
      → (routine : Routine) → env g ≡ routine
      → (c₀ : Clauses 𝓤 (read T F.row)) (c : Clauses 𝓤 (answering T F.row)) (R : T.D → F.row.Denot → Type 0)
      → (ghost : (h : T.D) → (c₀ tt (h, tt)).ghost)
      → ((h : T.D) → (c₀ tt (h, tt)).requires (ghost h) ≡ emp 𝓤)
      → ((h : T.D) (z : F.row.Denot) (e : AtExit (read T F.row) tt)
      → (c₀ tt (h, tt)).ensures (ghost h) z e ≡ fact 𝓤 (R h z))
      → ((κs : Lfts 1) (x : Bor T.D) (g : (c κs (x, tt)).ghost) (z : F.row.Denot)
      → (c κs (x, tt)).ensures g z (at_exit (answering T F.row) κs (x, tt) (tt, tt)) ≡ fact 𝓤 (R x.now z))
      → Meets 𝓛 (read T F.row).signature (𝓡.run routine) (closing 𝓛 (read T F.row) c₀)
      → Meets 𝓛 (answering T F.row).signature (𝓡.run (env f))
      (closing 𝓛 (answering T F.row) c)
  unfolding tables_of
  reads F l f g env closed routine calls c₀ c R ghost asks_nothing gives says met =
      let 𝓣 : Tables 𝓤 H = tables_of 𝓤 H 𝓜 (tables 𝓤 H 𝓜 𝓡 env) in
      let code : Fn = reader T g (lone F.row.mir) in
      let S : Ended = answering T F.row in
      entered 𝓤 H (triple_of 𝓛 S.signature (closing 𝓛 S c))
      (tables 𝓤 H 𝓜 𝓡 env).C (tables 𝓤 H 𝓜 𝓡 env).Λ f code closed
      (walk_Meets 𝓛 S (answered T F.row)
      (Goes-dropped 𝓛 1 (RefOf (0 ∷ []) tt (plain (λ κs. row T)) (λ κs. tt)) yes (λ κs x f. refl), tt) c
      (WpFn 𝓤 H 𝓣.C 𝓣.Λ code) (WpFn-mono 𝓤 H 𝓛.laws 𝓣 code)
      (walked 𝓛 S (answered T F.row) c (WpFn 𝓤 H 𝓣.C 𝓣.Λ code)
      (λ κs. (shr_vals, tt)) (λ κs. (shr_Tells (named 0) κs.0 (row T), tt))
      (λ κs qs bounds a γ are. let h = a.0.now in via 𝓤 _ (fst∗ 𝓤 _ ((c κs a).requires γ))
      (walk T L cs F l 𝓛 c R says κs.0 qs.0 a.0 γ 𝓣.C 𝓣.Λ (fm_of 𝓤 H 𝓛.laws 𝓣)
      (called T L cs F.row 𝓛 c₀ h (ghost h) 𝓣.C
      (cited 𝓤 H (triple_of 𝓛 (read T F.row).signature (closing 𝓛 (read T F.row) c₀)) 𝓜 𝓡
      env g routine calls met)
      (asks_nothing h) (R h) (gives h))))))

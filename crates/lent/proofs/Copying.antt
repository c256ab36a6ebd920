-- What a reader by value gives, stored: where `g(s: T) -> [f32; k]` meets its contract, the function
-- `f(s: &T, out: &mut [f32; k])` that stores what it gives meets the same contract, said of what stands in `out`
-- afterwards (`copies`). T is any declared type that can be copied. Assumes nothing.
use mathlib.Core.Path.{◌≡◌, refl, sym, subst, ap}
use Prim.Native.Nat.{ℕ, zero}
use mathlib.Core.List.{List, [], ◌∷◌}
use seplogic.Ra.Ura.{Ura}
use base.Fraction.{full_share}
use lib.Ieee.{Float, binary32}
use mir.Syntax.{Callee as Name, Ty, Fn, local, value_local, ty_ref, ty_array, ty_float, ty_unit, named, mut}
use mir.Syntax.{place, deref, copy, opd_unit, rv_opd, assign, call, seq, return}
use mir.Val.{Val, vptr, vunit}
use base.Logic.{SProp, ent, sep, emp, via, fst∗}
use base.Fml.{Lft, Share, ftrue, fat, flft, fobs, fbor}
use prog.Model.{Model}
use prog.Routine.{Env as Routines, Routine}
use prog.Wp.{Calls, Loops, WpFn, Tables, Closed}
use types.Logic.{Logic, sem}
use contract.Monad.{fact, fact_i}
use contract.Lifetimes.{Lfts}
use contract.Running.{Running, tables, tables_of}
use types.Kit.{‵, raw, some, given, later, ◌⊛◌, ◌$◌, ◌∵◌, !, Go, qed, by, move, keep}
use types.Kit.{drop, use0, use1, split, join, fsplit, fsplit3, fjoin, fjoin3, feq_i, await, pick, learn, rewrite}
use types.Kit.{suffices, done}
use types.Run.{Opds, look, and_then, no_more, init, store_raw, stop, hop, from, load, of_opd, unit_lit}
use types.Run.{assigns, land, returns, enter, alloc1, alloc0, params1, pass1, pass0, forget, free1, free0}
use types.SemTy.{Body as Held}
use sound.WpLaws.{FmC, fm_of, WpFn-mono}
use denote.RattleType.{RattleType, owns}
use denote.Laws.{Is, shows}
use denote.Memory.{mem}
use denote.Array.{Array as array_row}
use denote.Builtin.{f32, unit, RefOf, RefMutOf, ArrayOf}
use denote.Exit.{yes}
use denote.Ref.{Bor, MutBor, ShrRef, MutRef, shr_vals, mut_vals, shr_Tells, mut_Tells}
use denote.Signature.{plain}
use denote.Steps.{opens, closes, peeks, nothing, only}
use denote.Struct.Declared.{Declared, row}
use denote.Struct.Field.{f32-field, array_field}
use denote.Struct.Steps.{spelt}
use denote.Struct.Laws as LL
use denote.Triple.Call.{calls_at}
use denote.Triple.Clauses.{Clauses, Ended, AtExit, at_exit, closing}
use denote.Triple.Entry.{on_entry}
use denote.Triple.Spec.{Meets, triple_of}
use denote.Triple.Table.{entered, cited}
use denote.Triple.Walked.{Stays, stay_dropped, stay_ref, walk_of, Goes-dropped, Goes-ref, ends_at, walked, walk_Meets}
use Rattle.lent.proofs.Calling.{Called}
use Rattle.lent.proofs.Walk.{State, val}
use Rattle.lent.proofs.Reading.{Shared, read, copies_shared, called}

-- ---- the code

module _ (T : Declared) where
  abbrev Floats : ℕ → Ty
  Floats k = ty_array (ty_float binary32) k

  -- `let q = *s; let part = g(q); *out = part;`
  abbrev pub copier : Name → ℕ → Fn
  copier g k = record {
    lifetimes = 2;
    outlives = [];
    ty_params = [];
    givens = 0;
    params = 2;
    locals =
        local ty_unit value_local ∷ local (Shared T) value_local ∷ local (ty_ref (named 1) mut (Floats k)) value_local
        ∷ local (State T) value_local ∷ local (Floats k) value_local ∷ [];
    body =
        seq (assign (place 3 []) (rv_opd (copy (place 1 (deref (State T) ∷ [])))))
        (seq (call g (copy (place 3 []) ∷ []) (place 4 []))
        (seq (assign (place 2 (deref (Floats k) ∷ [])) (rv_opd (copy (place 4 []))))
        (seq (assign (place 0 []) (rv_opd opd_unit)) return)));
  }

-- ---- stored

module _ (T : Declared) (k : ℕ) where
  abbrev floats : RattleType
  floats = array_row f32 k

  abbrev pub storing : Ended
  storing = record {
    signature = record {
      lifetimes = 2;
      outlives = [];
      params =
          RefOf (0 ∷ []) tt (plain (λ κs. row T)) (λ κs. tt)
          ∷ RefMutOf (1 ∷ []) tt (ArrayOf (plain (λ κs. f32)) (λ κs. tt) k) (λ κs. tt) ∷ [];
      result = plain (λ κs. unit);
    };
    kept = (yes, (yes, tt));
  }

  abbrev stored : Stays storing.signature.params storing.kept
  stored = (
    stay_dropped (RefOf (0 ∷ []) tt (plain (λ κs. row T)) (λ κs. tt)) yes,
    (stay_ref (1 ∷ []) tt (ArrayOf (plain (λ κs. f32)) (λ κs. tt) k), tt),
  )

module _ (T : Declared) (L : LL.Laws T) (cs : LL.Copyables T.parts) (k : ℕ) {M : Type 1} {𝓤 : Ura M} (𝓛 : Logic 𝓤)
    (c : Clauses 𝓤 (storing T k)) (R : T.D → List Float → Type 0)
    (says : (κs : Lfts 2) (x : Bor T.D) (out : MutBor (List Float)) (g : (c κs (x, (out, tt))).ghost) (z : List Float)
    → (c κs (x, (out, tt))).ensures g tt (at_exit (storing T k) κs (x, (out, tt)) (tt, (z, tt)))
    ≡ fact 𝓤 (R x.now z)) where
  -- the laws of [f32; k]
  open 𝓛 use {H, A}

  abbrev Z : RattleType
  Z = floats T k

  abbrev l : LL.FLaws (array_field f32-field k)
  l = LL.array_laws f32-field LL.f32-laws k

  module _ (κ μ : Lft) (q p : Share) (x : Bor T.D) (out : MutBor (List Float))
      (g : (c (κ, (μ, tt)) (x, (out, tt))).ghost) where
    abbrev args : List Val × (List Val × Unit {0})
    args = (vptr x.ref_ptr.0 x.ref_ptr.1 ∷ [], (vptr out.ref_ptr.0 out.ref_ptr.1 ∷ [], tt))

    abbrev PostOf : Val → SProp 𝓤
    PostOf =
        (walk_of 𝓛 (storing T k) (stored T k) c).post
        (((κ, (μ, tt)), (q, (p, tt)), tt, (x, (out, tt)), args), g)

    stores : (z : List Float) → R x.now z
        → ent 𝓤 (sep 𝓤 (A.obs out.ghost_name (Z.coded.code z))
        (sep 𝓤 (A.bor μ (Held (mem Z) out.ref_ptr.0 out.ref_ptr.1 out.ghost_name)) (sep 𝓤 (A.lft μ p) (A.lft κ q))))
        (PostOf vunit)
    stores z e =
        qed 𝓛 (‵ (fobs out.ghost_name (Z.coded.code z))
        ∷ ‵ (fbor μ (Held (mem Z) out.ref_ptr.0 out.ref_ptr.1 out.ghost_name)) ∷ ‵ (flft μ p) ∷ ‵ (flft κ q) ∷ []) ∵
        suffices ! _ (ends_at 𝓛 (storing T k) (stored T k) c
        (((κ, (μ, tt)), (q, (p, tt)), tt, (x, (out, tt)), args), g) vunit tt (tt, (z, tt)) (tt, (tt, tt))) $
        nothing ! $ move ! (3 ∷ 0 ∷ []) $ join ! $ move ! (3 ∷ 0 ∷ []) $ join ! $
        -- [the tokens; obs; the borrow]
        feq_i ! (List Val) (vptr out.ref_ptr.0 out.ref_ptr.1 ∷ []) (vptr out.ref_ptr.0 out.ref_ptr.1 ∷ []) refl $
        move ! (0 ∷ 2 ∷ 3 ∷ []) $ fjoin3 ! $ nothing ! $ move ! (1 ∷ 0 ∷ []) $ fjoin ! $ nothing ! $ fjoin ! $
        feq_i ! (List Val) (vunit ∷ []) (vunit ∷ []) refl $ move ! (1 ∷ 0 ∷ []) $ join ! $
        move ! (1 ∷ 0 ∷ []) $ join ! $
        use0 𝓛 (raw ((c (κ, (μ, tt)) (x, (out, tt))).ensures g tt
        (at_exit (storing T k) (κ, (μ, tt)) (x, (out, tt)) (tt, (z, tt)))))
        (subst (λ (P : SProp 𝓤). ent 𝓤 (emp 𝓤) P) (sym (says (κ, (μ, tt)) x out g z)) (fact_i 𝓤 _ _ e)) $
        move ! (1 ∷ 0 ∷ []) $ done !

    walk_stored : {f : Name} (C : Calls 𝓤 H) (Λ : Loops 𝓤 H) → FmC 𝓤 H 𝓛.laws C
        → Called 𝓛 Z C f (val T L x.now ∷ []) (sem 𝓛 ((row T).own_val x.now (val T L x.now ∷ [])))
        (R x.now) (emp 𝓤)
        → ent 𝓤 (on_entry 𝓛 (storing T k).signature (κ, (μ, tt)) (q, (p, tt)) (x, (out, tt)) args)
        (WpFn 𝓤 H C Λ (copier T f k)
        (vptr x.ref_ptr.0 x.ref_ptr.1 ∷ vptr out.ref_ptr.0 out.ref_ptr.1 ∷ []) PostOf)
    walk_stored {f} C Λ fm by_value =
        qed 𝓛 ((‵ (flft κ q) ⊛ (‵ (flft μ p) ⊛ ‵ ftrue))
        ∷ ‵ (owns (ShrRef (named 0) κ (row T) ∷ MutRef (named 1) μ Z ∷ []) (x, (out, tt)) args) ∷ []) ∵
        split ! $ move ! (1 ∷ []) $ split ! $ move ! (3 ∷ []) $ fsplit ! $ move ! (1 ∷ []) $ fsplit ! $ fsplit3 ! $
        drop ! $ move ! (3 ∷ []) $ fsplit ! $ keep ! (1 ∷ 7 ∷ 2 ∷ 3 ∷ 5 ∷ []) $
        -- [the shared borrow; its token; obs; the borrow of the output; its token]
        enter ! C Λ (copier T f k) (vptr x.ref_ptr.0 x.ref_ptr.1 ∷ vptr out.ref_ptr.0 out.ref_ptr.1 ∷ []) _ $
        alloc1 ! (λ l₀. alloc1 ! (λ l₁. alloc1 ! (λ l₂. alloc1 ! (λ l₃. alloc1 ! (λ l₄. alloc0 ! $ params1 ! $
        pass1 ! (init ! 6 refl (tt, tt)) $ pass1 ! (init ! 4 refl (tt, tt)) $ pass0 ! $
        move ! (10 ∷ 11 ∷ 2 ∷ 6 ∷ []) $
        copies_shared T L cs x.ref_ptr.0 x.ref_ptr.1 x.now refl refl (
        use1 𝓛 (raw (by_value.contract.pre by_value.ghost)) by_value.asks $
        calls_at ! fm by_value.contract by_value.met by_value.ghost
        (subst (Opds (Go {0}) 𝓛 _ _ _) by_value.takes
        (and_then ! (load ! (from ! (stop !)) (look ! 2 refl)) (no_more !)))
        (λ v. use1 𝓛 (later (some (λ (z : List Float). given (R x.now z) (‵ (Z.own_val z (v ∷ [])) ⊛ ‵ ftrue))))
        (by_value.gives v) $
        await ! tt $ pick ! (λ z. learn ! (λ e. split ! $
        peeks ! Z (Is Z) (shows 𝓛 Z) z (v ∷ []) (λ is.
        land ! (from ! (stop !)) (init ! 5 refl ((l.lawful 𝓛).typed z (v ∷ []) is).0) $
        rewrite ! 0 (λ (us : List Val). ‵ (Z.own_val z us)) (l.tells z (v ∷ []) is) refl $
        rewrite ! 5 (λ (w : Val). ‵ (fat full_share (Floats T k) l₄ zero w)) (ap only (l.tells z (v ∷ []) is)) refl $
        move ! (13 ∷ 14 ∷ 15 ∷ []) $ opens ! tt Z {h = out.now} out.ref_ptr.0 out.ref_ptr.1 (λ vs.
        spelt ! Z (Is Z) (shows 𝓛 Z) (λ z. l.val z ∷ []) l.tells full_share out.now vs out.ref_ptr.0
        out.ref_ptr.1 $ move ! (1 ∷ []) $ drop ! $
        -- [the output's cell; the open borrow, three; what the floats own; nothing; the token; …]
        assigns ! (of_opd ! (load ! (from ! (stop !)) (look ! 9 refl))) (from ! (hop ! (look ! 12 refl) (stop !)))
        (store_raw ! 0 refl ((l.lawful 𝓛).typed z (l.val z ∷ [])
        (subst (Is Z z) (l.tells z (v ∷ []) is) is)).0) $
        move ! (0 ∷ 4 ∷ 1 ∷ 2 ∷ 3 ∷ []) $ closes ! tt Z z (l.val z ∷ []) out.ref_ptr.0 out.ref_ptr.1 $
        assigns ! (of_opd ! (unit_lit !)) (from ! (stop !)) (init ! 13 refl (tt, tt)) $ returns ! (look ! 13 refl) $
        forget ! 5 refl $ forget ! 6 refl $ forget ! 7 refl $ forget ! 10 refl $ forget ! 13 refl $
        move ! (13 ∷ 14 ∷ []) $ free1 ! $ move ! (6 ∷ 12 ∷ []) $ free1 ! $ move ! (9 ∷ 10 ∷ []) $ free1 ! $
        move ! (5 ∷ 8 ∷ []) $ free1 ! $ move ! (5 ∷ 6 ∷ []) $ free1 ! $ free0 ! $
        keep ! (0 ∷ 1 ∷ 2 ∷ 4 ∷ []) $ by ! (stores z e))))))))))))

-- ---- the theorem
-- What a proof cites is as in `Lending`. R h z is said of the struct h and of what is read of it, z.

module _ (T : Declared) (L : LL.Laws T) (cs : LL.Copyables T.parts) {M : Type 1} {𝓤 : Ura M} (𝓛 : Logic 𝓤)
    (𝓜 : Model 𝓤 𝓛.H) (𝓡 : Running 𝓤 𝓛.H 𝓜) where
  open 𝓛 use {H}

  pub copies : (k : ℕ) (f g : Name) (env : Routines)
      → Closed 𝓤 H (tables 𝓤 H 𝓜 𝓡 env).C (tables 𝓤 H 𝓜 𝓡 env).Λ f (copier T g k)
      → (routine : Routine) → env g ≡ routine
      → (c₀ : Clauses 𝓤 (read T (floats T k))) (c : Clauses 𝓤 (storing T k)) (R : T.D → List Float → Type 0)
      → (ghost : (h : T.D) → (c₀ tt (h, tt)).ghost)
      → ((h : T.D) → (c₀ tt (h, tt)).requires (ghost h) ≡ emp 𝓤)
      → ((h : T.D) (z : List Float) (e : AtExit (read T (floats T k)) tt)
      → (c₀ tt (h, tt)).ensures (ghost h) z e ≡ fact 𝓤 (R h z))
      → ((κs : Lfts 2) (x : Bor T.D) (out : MutBor (List Float)) (g : (c κs (x, (out, tt))).ghost) (z : List Float)
      → (c κs (x, (out, tt))).ensures g tt (at_exit (storing T k) κs (x, (out, tt)) (tt, (z, tt))) ≡ fact 𝓤 (R x.now z))
      → Meets 𝓛 (read T (floats T k)).signature (𝓡.run routine) (closing 𝓛 (read T (floats T k)) c₀)
      → Meets 𝓛 (storing T k).signature (𝓡.run (env f)) (closing 𝓛 (storing T k) c)
  unfolding tables_of
  copies k f g env closed routine calls c₀ c R ghost asks_nothing gives says met =
      let 𝓣 : Tables 𝓤 H = tables_of 𝓤 H 𝓜 (tables 𝓤 H 𝓜 𝓡 env) in
      let code : Fn = copier T g k in
      let S : Ended = storing T k in
      entered 𝓤 H (triple_of 𝓛 S.signature (closing 𝓛 S c))
      (tables 𝓤 H 𝓜 𝓡 env).C (tables 𝓤 H 𝓜 𝓡 env).Λ f code closed
      (walk_Meets 𝓛 S (stored T k) (
        Goes-dropped 𝓛 2 (RefOf (0 ∷ []) tt (plain (λ κs. row T)) (λ κs. tt)) yes (λ κs x f. refl),
        (Goes-ref 𝓛 2 1 tt (ArrayOf (plain (λ κs. f32)) (λ κs. tt) k), tt),
      ) c
      (WpFn 𝓤 H 𝓣.C 𝓣.Λ code) (WpFn-mono 𝓤 H 𝓛.laws 𝓣 code)
      (walked 𝓛 S (stored T k) c (WpFn 𝓤 H 𝓣.C 𝓣.Λ code)
      (λ κs. (shr_vals, (mut_vals, tt)))
      (λ κs. (shr_Tells (named 0) κs.0 (row T), (mut_Tells (named 1) κs.1.0 (floats T k), tt)))
      (λ κs qs bounds a γ are. let h = a.0.now in via 𝓤 _ (fst∗ 𝓤 _ ((c κs a).requires γ))
      (walk_stored T L cs k 𝓛 c R says κs.0 κs.1.0 qs.0 qs.1.0 a.0 a.1.0 γ
      𝓣.C 𝓣.Λ (fm_of 𝓤 H 𝓛.laws 𝓣)
      (called T L cs (floats T k) 𝓛 c₀ h (ghost h) 𝓣.C
      (cited 𝓤 H (triple_of 𝓛 (read T (floats T k)).signature (closing 𝓛 (read T (floats T k)) c₀))
      𝓜 𝓡 env g routine calls met)
      (asks_nothing h) (R h) (gives h))))))

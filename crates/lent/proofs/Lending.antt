-- A function by value, lent: where `g(s: T, ..) -> T` meets its contract, the function `f(s: &mut T, ..)` that calls it
-- and stores what it gives meets the same contract, said of the struct that stands there afterwards (`lends`). So does
-- an `f(s: &mut T)` that stores what a `g() -> T` gives, and does not read what stood there (`makes`). T is any
-- declared type, and what is passed on is any number of plain values and shared references (`PassedOn`): so a function
-- that is lent a struct costs its proof file the words that name the two functions.
-- Assumes nothing.
use mathlib.Core.Path.{◌≡◌, refl, sym, subst, ap, ◌∙◌}
use Prim.Native.Nat.{ℕ, suc}
use mathlib.Core.List.{List, [], ◌∷◌}
use seplogic.Ra.Ura.{Ura}
use mir.Syntax.{Callee as Name}
use mir.Val.{Val}
use base.Logic.{SProp, ent, sep, emp, id⊢}
use prog.Model.{Model}
use prog.Routine.{Env, Routine}
use prog.Wp.{Calls, Tables, Closed}
use types.Logic.{Logic, sem}
use contract.Monad.{fact}
use contract.Lifetimes.{Lfts, Shares}
use contract.Running.{Running, tables, tables_of}
use types.Kit.{‵, raw, ◌⊛◌, ◌$◌, ◌∵◌, !, qed, move, drop, use0, use1, split, join, fjoin, done}
use sound.WpLaws.{fm_of}
use denote.RattleType.{Denots, Valss, owns}
use denote.Laws.{valss}
use denote.Exit.{yes}
use denote.Ref.{MutBor}
use denote.Signature.{Slot, plain, types_at}
use denote.Steps.{nothing}
use denote.Struct.Declared.{Declared, row}
use denote.Struct.Laws as LL
use denote.Triple.Clauses.{Clauses, Ended, AtExit, at_exit, closing}
use denote.Triple.End.{Fins, Kepts, all}
use denote.Triple.Statement.{Contract, Triple}
use denote.Triple.Spec.{Meets, triple_of}
use denote.Triple.Table.{entered, cited}
use Rattle.lent.proofs.Calling.{Called, giving, Callee, hands_back}
use Rattle.lent.proofs.Extras.{values}
use Rattle.lent.proofs.Loan.{on_loan, tokens, passing, loan_meets}
use Rattle.lent.proofs.PassedOn.{PassedOn, mirs, slots, slots_inside, rows, rows_inside, spelled, machine}
use Rattle.lent.proofs.PassedOn.{in_a_row, across, across_values, across_flat, across_owns}
use Rattle.lent.proofs.Walk.{val, lent, lent_unread, walks, walks_unread}

-- ---- the function that is called

module _ (T : Declared) {n : ℕ} (ps : List (PassedOn n)) where
  abbrev taken : List (Slot n)
  taken = plain (λ κs. row T) ∷ slots_inside ps

  abbrev kept : Kepts taken
  kept = (yes, all yes (slots_inside ps))

  abbrev pub by_value : Ended
  by_value = giving (row T) n taken kept

module _ (T : Declared) (L : LL.Laws T) {n : ℕ} (ps : List (PassedOn n)) {M : Type 1} {𝓤 : Ura M} (𝓛 : Logic 𝓤)
    (c : Clauses 𝓤 (by_value T ps)) (κs : Lfts (suc n)) (qs : Shares (suc n))
    (x : MutBor T.D) (a : Denots (rows κs ps)) (ghost : (c κs.1 (x.now, across κs ps a)).ghost) where
  open 𝓛 use {H}

  abbrev vss : Valss (rows κs ps)
  vss = valss (rows κs ps) (spelled κs ps) a

  abbrev passes : Valss (types_at (taken T ps) κs.1)
  passes = (val T L x.now ∷ [], across_values κs ps vss)

  abbrev callee : Contract 𝓤
  callee = Callee (row T) n (taken T ps) (kept T ps) 𝓛 c

  abbrev to_callee : callee.Ghost
  to_callee = ((κs.1, qs.1, tt, (x.now, across κs ps a), passes), ghost)

  passes_all : val T L x.now ∷ values (mirs ps) (machine κs ps a) ≡ callee.args to_callee
  passes_all = ap (λ (us : List Val). val T L x.now ∷ us) (in_a_row κs ps a ∙ across_flat κs ps vss)

  -- what it asks is the struct, the other parameters and the tokens of their lifetimes
  asks : (c κs.1 (x.now, across κs ps a)).requires ghost ≡ emp 𝓤
      → ent 𝓤 (sep 𝓤 (sem 𝓛 ((row T).own_val x.now (val T L x.now ∷ []))) (passing n 𝓛 κs qs H ps a))
      (callee.pre to_callee)
  asks nothing_more =
      qed 𝓛 (‵ ((row T).own_val x.now (val T L x.now ∷ []))
      ∷ (‵ (owns (rows κs ps) a vss) ⊛ raw (tokens n 𝓛 κs qs)) ∷ []) ∵
      move ! (1 ∷ []) $ split ! $
      use1 𝓛 (‵ (owns (rows_inside κs ps) (across κs ps a) (across_values κs ps vss))) (across_owns κs 𝓛 ps a vss) $
      move ! (2 ∷ 0 ∷ []) $ fjoin ! $ move ! (1 ∷ 0 ∷ []) $ join ! $
      use0 𝓛 (raw ((c κs.1 (x.now, across κs ps a)).requires ghost))
      (subst (λ (P : SProp 𝓤). ent 𝓤 (emp 𝓤) P) (sym nothing_more) (id⊢ 𝓤 (emp 𝓤))) $
      move ! (1 ∷ 0 ∷ []) $ done !

  -- so where it meets its contract, which says Says of what it gives, a walk has what it has to have of it
  called : {f : Name} (C : Calls 𝓤 H) → Triple 𝓤 (C f) callee
      → (c κs.1 (x.now, across κs ps a)).requires ghost ≡ emp 𝓤
      → (Says : T.D → Type 0) → ((r : T.D) (e : AtExit (by_value T ps) κs.1)
      → (c κs.1 (x.now, across κs ps a)).ensures ghost r e ≡ fact 𝓤 (Says r))
      → Called 𝓛 (row T) C f (val T L x.now ∷ values (mirs ps) (machine κs ps a))
      (sep 𝓤 (sem 𝓛 ((row T).own_val x.now (val T L x.now ∷ []))) (passing n 𝓛 κs qs H ps a)) Says
      (tokens n 𝓛 κs qs)
  called C met nothing_more Says says = record {
    contract = callee;
    met = met;
    ghost = to_callee;
    takes = passes_all;
    asks = asks nothing_more;
    gives =
        hands_back (row T) n (taken T ps) (kept T ps) 𝓛 c κs.1 qs.1 (x.now, across κs ps a) passes ghost
        Says says;
  }

-- ---- the two theorems
-- What a proof cites: its own key f and the callee's g, the environment that its code is defined in with what is known
-- of it, the two contracts, what these say, and the callee's theorem. c₀ is the callee's contract, and c is that of the
-- function over the lent struct, which says the same of the struct after.

module _ (T : Declared) (L : LL.Laws T) {M : Type 1} {𝓤 : Ura M} (𝓛 : Logic 𝓤) (𝓜 : Model 𝓤 𝓛.H)
    (𝓡 : Running 𝓤 𝓛.H 𝓜) where
  -- R h a r is said of the struct h before, the other parameters a and the struct r after
  open 𝓛 use {H}

  pub lends : {n : ℕ} (ps : List (PassedOn n)) (f g : Name) (env : Env)
      → Closed 𝓤 H (tables 𝓤 H 𝓜 𝓡 env).C (tables 𝓤 H 𝓜 𝓡 env).Λ f (lent T g n (mirs ps))
      → (routine : Routine) → env g ≡ routine
      → (c₀ : Clauses 𝓤 (by_value T ps)) (c : Clauses 𝓤 (on_loan T ps))
      (R : (κs : Lfts (suc n)) → T.D → Denots (rows_inside κs ps) → T.D → Type 0)
      → (ghost : (κs : Lfts (suc n)) (h : T.D) (a : Denots (rows_inside κs ps)) → (c₀ κs.1 (h, a)).ghost)
      → ((κs : Lfts (suc n)) (h : T.D) (a : Denots (rows_inside κs ps))
      → (c₀ κs.1 (h, a)).requires (ghost κs h a) ≡ emp 𝓤)
      → ((κs : Lfts (suc n)) (h : T.D) (a : Denots (rows_inside κs ps)) (r : T.D) (e : AtExit (by_value T ps) κs.1)
      → (c₀ κs.1 (h, a)).ensures (ghost κs h a) r e ≡ fact 𝓤 (R κs h a r))
      → ((κs : Lfts (suc n)) (x : MutBor T.D) (a : Denots (rows κs ps)) (g : (c κs (x, a)).ghost)
      (ws : Fins κs (slots ps) (all yes (slots ps)) a) (r : T.D)
      → (c κs (x, a)).ensures g tt (at_exit (on_loan T ps) κs (x, a) (r, ws))
      ≡ fact 𝓤 (R κs x.now (across κs ps a) r))
      → Meets 𝓛 (by_value T ps).signature (𝓡.run routine) (closing 𝓛 (by_value T ps) c₀)
      → Meets 𝓛 (on_loan T ps).signature (𝓡.run (env f)) (closing 𝓛 (on_loan T ps) c)
  unfolding tables_of
  lends {n} ps f g env closed routine calls c₀ c R ghost asks_nothing gives updates met =
      let 𝓣 : Tables 𝓤 H = tables_of 𝓤 H 𝓜 (tables 𝓤 H 𝓜 𝓡 env) in
      entered 𝓤 H (triple_of 𝓛 (on_loan T ps).signature (closing 𝓛 (on_loan T ps) c))
      (tables 𝓤 H 𝓜 𝓡 env).C (tables 𝓤 H 𝓜 𝓡 env).Λ f (lent T g n (mirs ps)) closed
      (loan_meets T L ps 𝓛 c (λ κs x a. R κs x.now (across κs ps a)) updates (lent T g n (mirs ps)) 𝓣
      (λ κs qs x a Kf ends typed.
      let h = x.now in let b = across κs ps a in
      walks T L 𝓛 _ _ Kf x.ref_ptr.0 x.ref_ptr.1 h n (mirs ps) (machine κs ps a) typed (fm_of 𝓤 H 𝓛.laws 𝓣)
      (passing n 𝓛 κs qs H ps a) (R κs h b) (tokens n 𝓛 κs qs)
      (called T L ps 𝓛 c₀ κs qs x a (ghost κs h b) 𝓣.C
      (cited 𝓤 H (triple_of 𝓛 (by_value T ps).signature (closing 𝓛 (by_value T ps) c₀)) 𝓜 𝓡 env g
      routine calls met)
      (asks_nothing κs h b) (R κs h b) (gives κs h b))
      ends))

  abbrev pub made : Ended
  made = giving (row T) 0 [] tt

  abbrev none : List (PassedOn 0)
  none = []

  -- R r is said of the struct r after
  pub makes : (f g : Name) (env : Env)
      → Closed 𝓤 H (tables 𝓤 H 𝓜 𝓡 env).C (tables 𝓤 H 𝓜 𝓡 env).Λ f (lent_unread T g)
      → (routine : Routine) → env g ≡ routine
      → (c₀ : Clauses 𝓤 made) (c : Clauses 𝓤 (on_loan T none)) (R : T.D → Type 0)
      → (ghost : (c₀ tt tt).ghost) → (c₀ tt tt).requires ghost ≡ emp 𝓤
      → ((r : T.D) (e : AtExit made tt) → (c₀ tt tt).ensures ghost r e ≡ fact 𝓤 (R r))
      → ((κs : Lfts 1) (x : MutBor T.D) (a : Unit {0}) (g : (c κs (x, a)).ghost) (ws : Unit {0}) (r : T.D)
      → (c κs (x, a)).ensures g tt (at_exit (on_loan T none) κs (x, a) (r, ws)) ≡ fact 𝓤 (R r))
      → Meets 𝓛 made.signature (𝓡.run routine) (closing 𝓛 made c₀)
      → Meets 𝓛 (on_loan T none).signature (𝓡.run (env f)) (closing 𝓛 (on_loan T none) c)
  unfolding tables_of
  makes f g env closed routine calls c₀ c R ghost asks_nothing gives updates met =
      let 𝓣 : Tables 𝓤 H = tables_of 𝓤 H 𝓜 (tables 𝓤 H 𝓜 𝓡 env) in
      entered 𝓤 H (triple_of 𝓛 (on_loan T none).signature (closing 𝓛 (on_loan T none) c))
      (tables 𝓤 H 𝓜 𝓡 env).C (tables 𝓤 H 𝓜 𝓡 env).Λ f (lent_unread T g) closed
      (loan_meets T L none 𝓛 c (λ κs x a. R) updates (lent_unread T g) 𝓣 (λ κs qs x a Kf ends typed.
      walks_unread T L 𝓛 _ _ Kf x.ref_ptr.0 x.ref_ptr.1 x.now (fm_of 𝓤 H 𝓛.laws 𝓣)
      (passing 0 𝓛 κs qs H none a) R
      (record {
        contract = Callee (row T) 0 [] tt 𝓛 c₀;
        met = cited 𝓤 H (Callee (row T) 0 [] tt 𝓛 c₀) 𝓜 𝓡 env g routine calls met;
        ghost = ((tt, tt, tt, tt, tt), ghost);
        takes = refl;
        asks =
            qed 𝓛 (raw (passing 0 𝓛 κs qs H none a) ∷ []) ∵ drop ! $ nothing ! $ nothing ! $ join ! $
            use0 𝓛 (raw ((c₀ tt tt).requires ghost))
            (subst (λ (P : SProp 𝓤). ent 𝓤 (emp 𝓤) P) (sym asks_nothing) (id⊢ 𝓤 (emp 𝓤))) $
            move ! (1 ∷ 0 ∷ []) $ done !;
        gives = hands_back (row T) 0 [] tt 𝓛 c₀ tt tt tt tt ghost R gives;
      }) ends))

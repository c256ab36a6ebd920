-- The code of a function that is lent a struct, walked by hand in the program logic. The struct is a declared type T,
-- any one whose fields have their laws.
--     opens_at               the borrow is opened, and the struct lies in memory
--     copies_out, puts_in    the two statements that touch the place, for any function that is lent one: the borrow is
--                            opened and the struct read, and a struct is written and the borrow shut
--     walks                  `let before = *s; let after = f(before, ..); *s = after;`, whatever is passed on beside
--                            the struct: from what f meets
--     walks_unread           `let made = f(); *s = made;`, which does not read what stood there
-- `Lending` takes the last two to the contracts. In a script a number is the position of an item in the context.
-- Assumes nothing.
use mathlib.Core.Path.{◌≡◌, refl, subst, ap}
use Prim.Native.Nat.{ℕ, zero, suc}
use mathlib.Core.List.{List, [], ◌∷◌}
use seplogic.Ra.Ura.{Ura}
use base.Fraction.{full_share}
use mir.Syntax.{Callee as Name, Opd as Operand, Rv as RValue, Body, Ty, Fn, local, value_local, ty_ref, ty_unit}
use mir.Syntax.{named, mut, place, deref, copy, opd_unit, rv_opd, assign, call, seq, return}
use mir.Val.{Val, vptr, vunit}
use base.Logic.{SProp, ent, sep, emp, id⊢}
use base.Fml.{GName, Lft, Share, froom, fat, flft, fobs, fauth, fbor, fobor}
use prog.Wp.{Heap, Calls, Loops, WpFn, Env, spot_of}
use types.Logic.{Logic, sem}
use types.Kit.{Item, ‵, raw, some, given, later, Seq, frees, prop, runs, at_ret, ◌⊛◌, ◌$◌, Soaks, Goal}
use types.Kit.{move, join, use1, await, pick, learn, rewrite, split, drop, Go, !, ◌∵◌, qed, by}
use types.Run.{Opds, Rv, look, look_raw, and_then, init, store_raw, stop, hop, from, load, of_opd, unit_lit, no_more}
use types.Run.{assigns, land, returns, enter, alloc1, alloc0, params1, pass1, pass0, forget, free1, free0}
use types.SemTy.{Body as Held}
use sound.WpLaws.{FmC}
use denote.Laws.{Is, shows}
use denote.Memory.{mem, lone, pointee, cell_at}
use denote.Steps.{opens, closes, peeks, only}
use denote.Struct.Declared.{Declared, row}
use denote.Struct.Steps.{spelt}
use denote.Struct.Laws as LL
use denote.Triple.Call.{calls_at}
use Rattle.lent.proofs.Calling.{Called}
use Rattle.lent.proofs.Extras.{Values, Typed, values, declared, passed_on, after, found}
use Rattle.lent.proofs.Extras.{further, beyond, allocated, stored, freed, at, reads}

module _ (T : Declared) where
  -- the types of a struct, and of a struct's place that is lent
  abbrev pub State : Ty
  State = lone (row T).mir

  abbrev pub Place : Ty
  Place = ty_ref (named 0) mut (pointee (row T).written)

  -- the code: `let before = *s; let after = f(before, ..); *s = after;`, with `before` and `after` in the locals i and
  -- j; and `let made = f(); *s = made;`, with `made` in the local j
  abbrev stores : ℕ → Body
  stores j =
      seq (assign (place 1 (deref State ∷ [])) (rv_opd (copy (place j []))))
      (seq (assign (place 0 []) (rv_opd opd_unit)) return)

  abbrev pub code : Name → List Operand → ℕ → ℕ → Body
  code f xs i j =
      seq (assign (place i []) (rv_opd (copy (place 1 (deref State ∷ [])))))
      (seq (call f (copy (place i []) ∷ xs) (place j [])) (stores j))

  abbrev pub code_unread : Name → ℕ → Body
  code_unread f j = seq (call f [] (place j [])) (stores j)

  -- `fn g(s: &mut T, ..)`, with the other parameters of the types τs, over the function that has the name f
  abbrev pub lent : Name → ℕ → List Ty → Fn
  lent f n τs = record {
    lifetimes = suc n;
    outlives = [];
    ty_params = [];
    givens = 0;
    params = suc (after τs zero);
    locals =
        local ty_unit value_local ∷ local Place value_local
        ∷ declared τs (local State value_local ∷ local State value_local ∷ []);
    body = code f (passed_on τs 2) (suc (suc (after τs 0))) (suc (suc (after τs 1)));
  }

  -- `fn g(s: &mut T)`, over the function of no parameters that has the name f
  abbrev pub lent_unread : Name → Fn
  lent_unread f = record {
    lifetimes = 1;
    outlives = [];
    ty_params = [];
    givens = 0;
    params = 1;
    locals = local ty_unit value_local ∷ local Place value_local ∷ local State value_local ∷ [];
    body = code_unread f 2;
  }

module _ (T : Declared) (L : LL.Laws T) where
  -- the machine's value of a struct
  abbrev pub val : T.D → Val
  val = LL.val T L

  module _ {M : Type 1} (𝓤 : Ura M) (H : Heap 𝓤) where
    -- the locals: nothing, which is handed back, the place that is lent, and the others
    abbrev pub locals : ℕ → ℕ → Env 𝓤 H → Env 𝓤 H
    locals l₀ l₁ Es = (ty_unit, l₀) ∷ (Place T, l₁) ∷ Es

    abbrev own_locals : ℕ → ℕ → Env 𝓤 H
    own_locals lᵢ lⱼ = (State T, lᵢ) ∷ (State T, lⱼ) ∷ []

  -- ---- the entries of a context

  module _ {M : Type 1} {𝓤 : Ura M} where
    -- a local with its value, and one that has none yet
    abbrev pub holds : Ty → ℕ → Val → Item 𝓤
    holds τ l v = ‵ (fat full_share τ l zero v)

    abbrev pub room : Ty → ℕ → Item 𝓤
    room τ l = ‵ (froom τ l zero)

    -- what a struct owns
    abbrev pub owned : T.D → Item 𝓤
    owned h = ‵ ((row T).own_val h (val h ∷ []))

    -- a struct h that is lent, at the place b, o: with the borrow shut, and with it open, when h lies in memory
    abbrev pub shut : Lft → Share → GName → ℕ → ℕ → T.D → List (Item 𝓤) → List (Item 𝓤)
    shut κ q γ b o h Γ =
        ‵ (fobs γ ((row T).coded.code h)) ∷ ‵ (fbor κ (Held (mem (row T)) b o γ)) ∷ ‵ (flft κ q) ∷ Γ

    abbrev pub opened : Lft → Share → GName → ℕ → ℕ → T.D → List (Item 𝓤) → List (Item 𝓤)
    opened κ q γ b o h Γ =
        ‵ (cell_at full_share (row T).mir (val h ∷ []) b o) ∷ ‵ (fobor κ q (Held (mem (row T)) b o γ))
        ∷ ‵ (fobs γ ((row T).coded.code h)) ∷ ‵ (fauth γ ((row T).coded.code h)) ∷ Γ

  -- ---- a struct read out of its place, and another put there, by any function that is lent one

  module _ {M : Type 1} {𝓤 : Ura M} {𝓛 : Logic 𝓤} {κ : Lft} {q : Share} {γ : GName}
      {Γ : List (Item 𝓤)} where
    open 𝓛 use {H}

    pub opens_at : {g : Goal 𝓤 H} → Soaks g → (b o : ℕ) (h : T.D)
        → (Is (row T) h (val h ∷ []) → Seq (Go {0}) 𝓛 (owned h ∷ opened κ q γ b o h Γ) g)
        → Seq (Go {0}) 𝓛 (shut κ q γ b o h Γ) g
    opens_at soaks b o h k =
        opens ! soaks (row T) {h = h} b o (λ vs.
        spelt ! (row T) (Is (row T)) (shows 𝓛 (row T)) (LL.vals T L) (LL.tells T L) full_share h vs b o $
        move ! (1 ∷ []) $ peeks ! (row T) (Is (row T)) (shows 𝓛 (row T)) h (val h ∷ []) k)

  module _ {M : Type 1} {𝓤 : Ura M} {𝓛 : Logic 𝓤} {C : Calls 𝓤 𝓛.H} {Λ : Loops 𝓤 𝓛.H}
      {E : Env 𝓤 𝓛.H} {rest : Body} {Kf : Val → SProp 𝓤} {κ : Lft} {q : Share} {γ : GName} {p lₚ : ℕ} {π : Ty}
      {Γ : List (Item 𝓤)} where
    -- the struct is copied to the local j, and the borrow is open
    open 𝓛 use {H}

    pub copies_out : (b o : ℕ) (h : T.D) {j lⱼ : ℕ} → spot_of 𝓤 H E p ≡ (π, lₚ, zero)
        → spot_of 𝓤 H E j ≡ (State T, lⱼ, zero)
        → Seq (Go {0}) 𝓛 (owned h ∷ opened κ q γ b o h (holds (State T) lⱼ (val h) ∷ holds π lₚ (vptr b o) ∷ Γ))
        (runs C Λ E rest (at_ret E Kf))
        → Seq (Go {0}) 𝓛 (shut κ q γ b o h (room (State T) lⱼ ∷ holds π lₚ (vptr b o) ∷ Γ))
        (runs C Λ E (seq (assign (place j []) (rv_opd (copy (place p (deref (State T) ∷ []))))) rest) (at_ret E Kf))
    copies_out b o h eₚ eⱼ k =
        opens_at tt b o h (λ was.
        assigns ! (of_opd ! (load ! (at ! eₚ (hop ! (look ! 6 refl) (stop !))) (look_raw ! 1 refl))) (at ! eⱼ (stop !))
        (init ! 5 refl ((LL.lawful T L 𝓛).typed h (val h ∷ []) was).0) $ k)

    -- a struct r that is at hand takes the place of h, and the borrow is closed
    pub puts_in : (b o : ℕ) (h r : T.D) {rv : RValue} → Is (row T) r (val r ∷ []) → spot_of 𝓤 H E p ≡ (π, lₚ, zero)
        → Rv (Go {0}) 𝓛 (owned r ∷ opened κ q γ b o h (holds π lₚ (vptr b o) ∷ Γ)) E rv (val r)
        → Seq (Go {0}) 𝓛 (shut κ q γ b o r (holds π lₚ (vptr b o) ∷ Γ)) (runs C Λ E rest (at_ret E Kf))
        → Seq (Go {0}) 𝓛 (owned r ∷ opened κ q γ b o h (holds π lₚ (vptr b o) ∷ Γ))
        (runs C Λ E (seq (assign (place p (deref (State T) ∷ [])) rv) rest) (at_ret E Kf))
    puts_in b o h r is eₚ there k =
        assigns ! there (at ! eₚ (hop ! (look ! 5 refl) (stop !)))
        (store_raw ! 1 refl ((LL.lawful T L 𝓛).typed r (val r ∷ []) is).0) $
        move ! (1 ∷ 0 ∷ []) $ closes ! tt (row T) r (val r ∷ []) b o $ k

  -- ---- how a function that is lent a struct ends

  module _ {M : Type 1} {𝓤 : Ura M} (𝓛 : Logic 𝓤) where
    -- the borrow is shut at a struct that Gives holds of, and what the callee handed back is at hand
    open 𝓛 use {A}

    abbrev pub Ends : Lft → Share → GName → ℕ → ℕ → (T.D → Type 0) → SProp 𝓤 → (Val → SProp 𝓤) → Type 1
    Ends κ q γ b o Gives back Kf =
        (r : T.D) → Gives r → ent 𝓤 (sep 𝓤 (A.obs γ ((row T).coded.code r))
        (sep 𝓤 (A.bor κ (Held (mem (row T)) b o γ)) (sep 𝓤 (A.lft κ q) back))) (Kf vunit)

  -- ---- what a function by value gives is stored, and the function returns

  module _ {M : Type 1} {𝓤 : Ura M} {𝓛 : Logic 𝓤} {C : Calls 𝓤 𝓛.H} {Λ : Loops 𝓤 𝓛.H}
      {f : Name} {xs : List Operand} {κ : Lft} {q : Share} {γ : GName} {l₀ l₁ j lⱼ : ℕ} {Es : Env 𝓤 𝓛.H}
      {Kf : Val → SProp 𝓤} {Γ : List (Item 𝓤)} where
    open 𝓛 use {H}

    updates : (b o : ℕ) (h : T.D) → FmC 𝓤 H 𝓛.laws C → (vs : List Val) (P : SProp 𝓤) (Gives : T.D → Type 0)
        (back : SProp 𝓤) (g : Called 𝓛 (row T) C f vs P Gives back)
        → spot_of 𝓤 H (locals 𝓤 H l₀ l₁ Es) j ≡ (State T, lⱼ, zero)
        → Opds (Go {0}) 𝓛 (raw (g.contract.pre g.ghost) ∷ opened κ q γ b o h (holds (Place T) l₁ (vptr b o)
        ∷ room (State T) lⱼ ∷ room ty_unit l₀ ∷ Γ)) (locals 𝓤 H l₀ l₁ Es) xs vs
        → ((r : T.D) → Gives r → Seq (Go {0}) 𝓛 (shut κ q γ b o r
        (holds (Place T) l₁ (vptr b o) ∷ holds (State T) lⱼ (val r) ∷ holds ty_unit l₀ vunit ∷ raw back ∷ Γ))
        (frees (locals 𝓤 H l₀ l₁ Es) (prop (Kf vunit))))
        → Seq (Go {0}) 𝓛 (raw P ∷ opened κ q γ b o h (holds (Place T) l₁ (vptr b o)
        ∷ room (State T) lⱼ ∷ room ty_unit l₀ ∷ Γ))
        (runs C Λ (locals 𝓤 H l₀ l₁ Es) (seq (call f xs (place j [])) (stores T j)) (at_ret (locals 𝓤 H l₀ l₁ Es) Kf))
    updates b o h fm vs P Gives back g eⱼ args k =
        use1 𝓛 (raw (g.contract.pre g.ghost)) g.asks $
        calls_at ! fm g.contract g.met g.ghost (subst (Opds (Go {0}) 𝓛 _ _ _) g.takes args)
        (λ v. use1 𝓛 (later (some (λ (r : T.D). given (Gives r) (‵ ((row T).own_val r (v ∷ [])) ⊛ raw back))))
        (g.gives v) $
        await ! tt $ pick ! (λ r. learn ! (λ e. split ! $
        peeks ! (row T) (Is (row T)) (shows 𝓛 (row T)) r (v ∷ []) (λ is.
        -- what f gave is stored, and is the machine's value of r
        land ! (at ! eⱼ (stop !)) (init ! 7 refl ((LL.lawful T L 𝓛).typed r (v ∷ []) is).0) $
        rewrite ! 0 (λ (us : List Val). ‵ ((row T).own_val r us)) (LL.tells T L r (v ∷ []) is) refl $
        rewrite ! 7 (λ (w : Val). ‵ (fat full_share (State T) lⱼ zero w)) (ap only (LL.tells T L r (v ∷ []) is)) refl $
        move ! (0 ∷ 2 ∷ 3 ∷ 4 ∷ 5 ∷ 6 ∷ 7 ∷ 8 ∷ 1 ∷ []) $
        puts_in b o h r (subst (Is (row T) r) (LL.tells T L r (v ∷ []) is) is) refl
        (of_opd ! (load ! (at ! eⱼ (stop !)) (look ! 6 refl))) (
        assigns ! (of_opd ! (unit_lit !)) (from ! (stop !)) (init ! 5 refl (tt, tt)) $
        returns ! (look ! 5 refl) $ k r e)))))

  -- ---- the whole functions

  module _ {M : Type 1} {𝓤 : Ura M} (𝓛 : Logic 𝓤) (C : Calls 𝓤 𝓛.H) (Λ : Loops 𝓤 𝓛.H)
      {f : Name} {κ : Lft} {q : Share} {γ : GName} (Kf : Val → SProp 𝓤) where
    open 𝓛 use {H, A}

    pub walks : (b o : ℕ) (h : T.D) (n : ℕ) (τs : List Ty) (vs : Values τs) → Typed τs vs → FmC 𝓤 H 𝓛.laws C
        → (rest : SProp 𝓤) (Gives : T.D → Type 0) (back : SProp 𝓤)
        → Called 𝓛 (row T) C f (val h ∷ values τs vs) (sep 𝓤 (sem 𝓛 ((row T).own_val h (val h ∷ []))) rest) Gives
        back
        → Ends 𝓛 κ q γ b o Gives back Kf
        → ent 𝓤 (sep 𝓤 (A.obs γ ((row T).coded.code h)) (sep 𝓤 (A.bor κ (Held (mem (row T)) b o γ))
        (sep 𝓤 (A.lft κ q) rest))) (WpFn 𝓤 H C Λ (lent T f n τs) (vptr b o ∷ values τs vs) Kf)
    walks b o h n τs vs typed fm rest Gives back g ends =
        qed 𝓛 (shut κ q γ b o h (raw rest ∷ [])) ∵
        enter ! C Λ (lent T f n τs) (vptr b o ∷ values τs vs) _ $
        alloc1 ! (λ l₀. alloc1 ! (λ l₁. allocated τs (λ bs. alloc1 ! (λ lᵢ. alloc1 ! (λ lⱼ. alloc0 ! $ params1 ! $
        -- [after; it dies; before; it dies; the other parameters; the place; it dies; nothing; it dies; obs; the
        -- borrow; the token; the rest]
        pass1 ! (init ! 5 refl (tt, tt)) $ move ! (4 ∷ []) $ stored τs bs vs typed (own_locals 𝓤 H lᵢ lⱼ) (
        move ! (9 ∷ 10 ∷ 11 ∷ 3 ∷ 5 ∷ []) $
        copies_out b o h refl (beyond 𝓤 H τs bs (own_locals 𝓤 H lᵢ lⱼ) 0) (
        -- [what before owns; the open borrow, four; before; the place; the other parameters; after; it dies; before
        -- dies; the place dies; nothing; it dies; the rest]
        move ! (0 ∷ 14 ∷ []) $ join ! $ use1 𝓛 (raw (sep 𝓤 (sem 𝓛 ((row T).own_val h (val h ∷ []))) rest)) (id⊢ 𝓤 _) $
        move ! (0 ∷ 1 ∷ 2 ∷ 3 ∷ 4 ∷ 6 ∷ 8 ∷ 12 ∷ []) $
        updates b o h fm (val h ∷ values τs vs) (sep 𝓤 (sem 𝓛 ((row T).own_val h (val h ∷ []))) rest) Gives back g
        (beyond 𝓤 H τs bs (own_locals 𝓤 H lᵢ lⱼ) 1)
        (and_then ! (load ! (at ! (beyond 𝓤 H τs bs (own_locals 𝓤 H lᵢ lⱼ) 0) (stop !)) (look ! 8 refl))
        (reads τs bs vs 2 (further 𝓤 H τs bs _ 1 _ (further 𝓤 H τs bs _ 0 _ (found 𝓤 H τs bs (own_locals 𝓤 H lᵢ lⱼ))))
        9 (λ τ b v back p. (back, p))))
        (λ r e.
        -- [obs; the borrow; the token; the place; after; nothing; what is handed back; before; the other parameters;
        -- after dies; before dies; the place dies; nothing dies]
        forget ! 3 refl $ forget ! 4 refl $ forget ! 5 refl $ forget ! 7 refl $ move ! (5 ∷ 12 ∷ []) $ free1 ! $
        move ! (3 ∷ 10 ∷ []) $ free1 ! $ move ! (6 ∷ []) $
        freed τs bs vs (own_locals 𝓤 H lᵢ lⱼ)
        (move ! (5 ∷ 7 ∷ []) $ free1 ! $ move ! (3 ∷ 5 ∷ []) $ free1 ! $ free0 ! $ by ! (ends r e))))))))))

    pub walks_unread : (b o : ℕ) (h : T.D) → FmC 𝓤 H 𝓛.laws C → (rest : SProp 𝓤) (Gives : T.D → Type 0)
        → Called 𝓛 (row T) C f [] rest Gives (emp 𝓤) → Ends 𝓛 κ q γ b o Gives (emp 𝓤) Kf
        → ent 𝓤 (sep 𝓤 (A.obs γ ((row T).coded.code h)) (sep 𝓤 (A.bor κ (Held (mem (row T)) b o γ))
        (sep 𝓤 (A.lft κ q) rest))) (WpFn 𝓤 H C Λ (lent_unread T f) (vptr b o ∷ []) Kf)
    walks_unread b o h fm rest Gives g ends =
        qed 𝓛 (shut κ q γ b o h (raw rest ∷ [])) ∵
        enter ! C Λ (lent_unread T f) (vptr b o ∷ []) _ $
        alloc1 ! (λ l₀. alloc1 ! (λ l₁. alloc1 ! (λ lⱼ. alloc0 ! $ params1 ! $
        pass1 ! (init ! 2 refl (tt, tt)) $ pass0 ! $ move ! (6 ∷ 7 ∷ 8 ∷ 2 ∷ 0 ∷ 4 ∷ []) $
        opens_at tt b o h (λ was. drop ! $ move ! (10 ∷ []) $
        updates b o h fm [] rest Gives (emp 𝓤) g refl (no_more !) (λ r e.
        -- [obs; the borrow; the token; the place; made; nothing; what is handed back; made dies; the place dies;
        -- nothing dies]
        forget ! 3 refl $ forget ! 4 refl $ forget ! 5 refl $ move ! (5 ∷ 9 ∷ []) $ free1 ! $ move ! (3 ∷ 7 ∷ []) $
        free1 ! $ move ! (3 ∷ 5 ∷ []) $ free1 ! $ free0 ! $ by ! (ends r e))))))

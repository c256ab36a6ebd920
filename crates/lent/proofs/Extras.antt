-- The parameters of a function that it only passes on, any number of them, each of one machine value, in a walk of its
-- code: their locals are made, take the arguments, are read by a call, and are given back. In a context they are one
-- item, so that no position depends on how many there are.
-- Assumes nothing.
use mathlib.Core.Path.{◌≡◌, refl, sym, subst, ap}
use Prim.Native.Nat.{ℕ, zero, suc}
use mathlib.Core.List.{List, [], ◌∷◌}
use seplogic.Ra.Ura.{Ura}
use base.Fraction.{full_share}
use lib.Dec.{T}
use mir.Syntax.{Ty, Step as PStep, Local, local, value_local, place, copy, Opd as Operand}
use mir.Val.{Val, has_ty, WT}
use base.Logic.{SProp, sep, wand, all, all_e, apply∗, emp, id⊢}
use base.Fml.{froom, fdies, fat}
use prog.Wp.{Heap, Env, Spot, spot_of}
use types.Logic.{Logic}
use types.Kit.{Item, ‵, raw, ◌⊛◌, mean, nth, Seq, Goal, allocs, passes, frees, ◌$◌, ◌∵◌, !, Go}
use types.Kit.{qed, move, use0, use1, use2, split, join, drop, frame, each, assume, done}
use types.Run.{Opds, Walks, Finds, init, forget, stop, from, no_more, and_then, load, alloc1, pass1, pass0, free1}
use types.Part.{Part, look_in}

-- ---- what there is of them: types, blocks, values

abbrev pub Blocks : List Ty → Type 0
Blocks [] = Unit {0}
Blocks (τ ∷ τs) = ℕ × Blocks τs

abbrev pub Values : List Ty → Type 0
Values [] = Unit {0}
Values (τ ∷ τs) = Val × Values τs

abbrev pub Typed : (τs : List Ty) → Values τs → Type 0
Typed [] vs = Unit {0}
Typed (τ ∷ τs) vs = (T (has_ty τ vs.0) × WT vs.0) × Typed τs vs.1

abbrev pub values : (τs : List Ty) → Values τs → List Val
values [] vs = []
values (τ ∷ τs) vs = vs.0 ∷ values τs vs.1

-- their locals in a function's, before the rest
abbrev pub declared : List Ty → List Local → List Local
declared [] ls = ls
declared (τ ∷ τs) ls = local τ value_local ∷ declared τs ls

-- the operands that pass them on, from the i-th local on
abbrev pub passed_on : List Ty → ℕ → List Operand
passed_on [] i = []
passed_on (τ ∷ τs) i = copy (place i []) ∷ passed_on τs (suc i)

-- the number of a local that stands after them
abbrev pub after : List Ty → ℕ → ℕ
after [] i = i
after (τ ∷ τs) i = suc (after τs i)

module _ {M : Type 1} (𝓤 : Ura M) (H : Heap 𝓤) where
  abbrev pub env : (τs : List Ty) → Blocks τs → Env 𝓤 H → Env 𝓤 H
  env [] bs E = E
  env (τ ∷ τs) bs E = (τ, bs.0) ∷ env τs bs.1 E

  -- room for each, and each with its value
  abbrev pub rooms : (τs : List Ty) → Blocks τs → SProp 𝓤
  rooms [] bs = emp 𝓤
  rooms (τ ∷ τs) bs = sep 𝓤 (sep 𝓤 (H.room τ bs.0 zero) (H.dies τ bs.0)) (rooms τs bs.1)

  abbrev pub cells : (τs : List Ty) → Blocks τs → Values τs → SProp 𝓤
  cells [] bs vs = emp 𝓤
  cells (τ ∷ τs) bs vs =
      sep 𝓤 (sep 𝓤 (H.at full_share τ bs.0 zero vs.0) (H.dies τ bs.0)) (cells τs bs.1 vs.1)

  -- each is found in an environment, from the i-th local on
  abbrev pub Found : (τs : List Ty) → Blocks τs → Env 𝓤 H → ℕ → Type 0
  Found [] bs E i = Unit {0}
  Found (τ ∷ τs) bs E i = (spot_of 𝓤 H E i ≡ (τ, bs.0, zero)) × Found τs bs.1 E (suc i)

  pub further : (τs : List Ty) (bs : Blocks τs) (E : Env 𝓤 H) (i : ℕ) (e : Ty × ℕ) → Found τs bs E i
      → Found τs bs (e ∷ E) (suc i)
  further [] bs E i e f = tt
  further (τ ∷ τs) bs E i e f = (f.0, further τs bs.1 E (suc i) e f.1)

  pub found : (τs : List Ty) (bs : Blocks τs) (E : Env 𝓤 H) → Found τs bs (env τs bs E) zero
  found [] bs E = tt
  found (τ ∷ τs) bs E = (refl, further τs bs.1 (env τs bs.1 E) zero (τ, bs.0) (found τs bs.1 E))

  -- what stands after them
  pub beyond : (τs : List Ty) (bs : Blocks τs) (E : Env 𝓤 H) (i : ℕ)
      → spot_of 𝓤 H (env τs bs E) (after τs i) ≡ spot_of 𝓤 H E i
  beyond [] bs E i = refl
  beyond (τ ∷ τs) bs E i = beyond τs bs.1 E i

-- an item that has within it what another has
abbrev Within : {M : Type 1} {𝓤 : Ura M} → (𝓛 : Logic 𝓤) → Item 𝓤 → Item 𝓤 → Type 2
Within {𝓤 = 𝓤} 𝓛 i j =
    (τ : Ty) (b : ℕ) (v : Val) (back : Val → Item 𝓤) → Part (Go {0}) 𝓛 i full_share τ b zero v back
    → (back' : Val → Item 𝓤) × Part (Go {0}) 𝓛 j full_share τ b zero v back'

module _ {M : Type 1} {𝓤 : Ura M} {𝓛 : Logic 𝓤} where
  open 𝓛 use {H}

  pub allocated : (τs : List Ty) {ls : List Local} {Kt : Env 𝓤 H → Goal 𝓤 H} {Γ : List (Item 𝓤)}
      → ((bs : Blocks τs) → Seq (Go {0}) 𝓛 (raw (rooms 𝓤 H τs bs) ∷ Γ) (allocs ls (λ E. Kt (env 𝓤 H τs bs E))))
      → Seq (Go {0}) 𝓛 Γ (allocs (declared τs ls) Kt)
  allocated [] k = use0 𝓛 (raw (emp 𝓤)) (id⊢ 𝓤 (emp 𝓤)) $ k tt
  allocated (τ ∷ τs) {ls} {Kt} {Γ} k = alloc1 ! (λ b. allocated τs (λ bs. move ! (1 ∷ 2 ∷ 0 ∷ []) $ join ! $ join ! $
      use1 𝓛 (raw (rooms 𝓤 H (τ ∷ τs) (b, bs))) (id⊢ 𝓤 _) $ k (b, bs)))

  pub stored : (τs : List Ty) (bs : Blocks τs) (vs : Values τs) → Typed τs vs
      → (E : Env 𝓤 H) {g : Goal 𝓤 H} {Γ : List (Item 𝓤)}
      → Seq (Go {0}) 𝓛 (raw (cells 𝓤 H τs bs vs) ∷ Γ) g
      → Seq (Go {0}) 𝓛 (raw (rooms 𝓤 H τs bs) ∷ Γ) (passes (env 𝓤 H τs bs E) (values τs vs) g)
  stored [] bs vs typed E k = pass0 ! $ k
  stored (τ ∷ τs) bs vs typed E k =
      use1 𝓛 ((‵ (froom τ bs.0 zero) ⊛ ‵ (fdies τ bs.0)) ⊛ raw (rooms 𝓤 H τs bs.1)) (id⊢ 𝓤 _) $
      split ! $ split ! $
      pass1 ! (init ! 0 refl typed.0) $ move ! (2 ∷ []) $
      stored τs bs.1 vs.1 typed.1 E (move ! (1 ∷ 2 ∷ 0 ∷ []) $ join ! $ join ! $
      use1 𝓛 (raw (cells 𝓤 H (τ ∷ τs) bs vs)) (id⊢ 𝓤 _) $ k)

  pub freed : (τs : List Ty) (bs : Blocks τs) (vs : Values τs) (E : Env 𝓤 H) {g : Goal 𝓤 H} {Γ : List (Item 𝓤)}
      → Seq (Go {0}) 𝓛 Γ (frees E g) → Seq (Go {0}) 𝓛 (raw (cells 𝓤 H τs bs vs) ∷ Γ) (frees (env 𝓤 H τs bs E) g)
  freed [] bs vs E k = drop ! $ k
  freed (τ ∷ τs) bs vs E k =
      use1 𝓛 ((‵ (fat full_share τ bs.0 zero vs.0) ⊛ ‵ (fdies τ bs.0)) ⊛ raw (cells 𝓤 H τs bs.1 vs.1))
      (id⊢ 𝓤 _) $ split ! $ split ! $
      forget ! 0 refl $ free1 ! $ freed τs bs.1 vs.1 E k

  -- ---- the call's operands

  -- the place of the i-th local
  pub at : {K : Type 0} → K → {E : Env 𝓤 H} {Γ : List (Item 𝓤)} {i : ℕ} {sp : Spot 𝓤 H} → spot_of 𝓤 H E i ≡ sp
      → {st : List PStep} {sp' : Spot 𝓤 H} → Walks K 𝓛 Γ E sp st sp' → Finds K 𝓛 Γ E (place i st) sp'
  at {K} t {E} {Γ} e {st} {sp'} w = from t (subst (λ (s : Spot 𝓤 H). Walks K 𝓛 Γ E s st sp') (sym e) w)

  first : (τ : Ty) (b : ℕ) (v : Val) (P Q : SProp 𝓤)
      → Part (Go {0}) 𝓛 (raw (sep 𝓤 (sep 𝓤 (H.at full_share τ b zero v) P) Q)) full_share τ b zero v
      (λ u. raw (sep 𝓤 (sep 𝓤 (H.at full_share τ b zero u) P) Q))
  first τ b v P Q = record {
    out =
        qed 𝓛 (raw (sep 𝓤 (sep 𝓤 (H.at full_share τ b zero v) P) Q) ∷ []) ∵
        use1 𝓛 ((‵ (fat full_share τ b zero v) ⊛ raw P) ⊛ raw Q) (id⊢ 𝓤 _) $ split ! $ split ! $ frame ! $
        each ! (λ (u : Val). wand 𝓤 (H.at full_share τ b zero u) (sep 𝓤 (sep 𝓤 (H.at full_share τ b zero u) P) Q))
        (λ u. assume ! (‵ (fat full_share τ b zero u)) $ join ! $ done !);
    same = refl;
  }

  later : (P Q : SProp 𝓤) {τ : Ty} {b : ℕ} {v : Val} {back : Val → Item 𝓤}
      → Part (Go {0}) 𝓛 (raw Q) full_share τ b zero v back
      → Part (Go {0}) 𝓛 (raw (sep 𝓤 P Q)) full_share τ b zero v (λ u. raw (sep 𝓤 P (mean 𝓛 (back u))))
  later P Q {τ} {b} {v} {back} p = record {
    out = qed 𝓛 (raw (sep 𝓤 P Q) ∷ []) ∵ use1 𝓛 (raw P ⊛ raw Q) (id⊢ 𝓤 _) $ split ! $ move ! (1 ∷ []) $
        use1 𝓛 (‵ (fat full_share τ b zero v)
        ⊛ raw (all 𝓤 (λ (u : Val). wand 𝓤 (H.at full_share τ b zero u) (mean 𝓛 (back u))))) p.out $
        split ! $ frame ! $
        each ! (λ (u : Val). wand 𝓤 (H.at full_share τ b zero u) (sep 𝓤 P (mean 𝓛 (back u))))
        (λ u. assume ! (‵ (fat full_share τ b zero u)) $ move ! (1 ∷ []) $
        use1 𝓛 (raw (wand 𝓤 (H.at full_share τ b zero u) (mean 𝓛 (back u))))
        (all_e 𝓤 (λ (w : Val). wand 𝓤 (H.at full_share τ b zero w) (mean 𝓛 (back w))) u) $
        move ! (1 ∷ 0 ∷ []) $
        use2 𝓛 (back u) (apply∗ 𝓤 (H.at full_share τ b zero u) (mean 𝓛 (back u))) $ move ! (1 ∷ 0 ∷ []) $ done !);
    same = ap (λ (i : Item 𝓤). raw (sep 𝓤 P (mean 𝓛 i))) p.same;
  }

  pub reads : (τs : List Ty) (bs : Blocks τs) (vs : Values τs) {E : Env 𝓤 H} (i : ℕ) → Found 𝓤 H τs bs E i
      → (n : ℕ) {Γ : List (Item 𝓤)} → Within 𝓛 (raw (cells 𝓤 H τs bs vs)) (nth 𝓛 n Γ)
      → Opds (Go {0}) 𝓛 Γ E (passed_on τs i) (values τs vs)
  reads [] bs vs i f n w = no_more !
  reads (τ ∷ τs) bs vs i f n w = and_then !
      (load ! (at ! f.0 (stop !)) (look_in ! n
      (w τ bs.0 vs.0 _ (first τ bs.0 vs.0 (H.dies τ bs.0) (cells 𝓤 H τs bs.1 vs.1))).1))
      (reads τs bs.1 vs.1 (suc i) f.1 n (λ σ b v back p. w σ b v _
      (later (sep 𝓤 (H.at full_share τ bs.0 zero vs.0) (H.dies τ bs.0)) (cells 𝓤 H τs bs.1 vs.1) p)))

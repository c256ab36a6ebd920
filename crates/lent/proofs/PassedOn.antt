-- The parameters that a function over a lent struct passes on beside it, to the function that it calls: plain values,
-- and shared references. In the caller's signature the struct's lifetime is numbered 0, so that a lifetime of the
-- callee's has the next number there. Nothing is had of them at exit, and nothing is said.
-- Assumes nothing.
use mathlib.Core.Path.{◌≡◌, refl, sym, subst, ap}
use Prim.Native.Nat.{ℕ, suc}
use mathlib.Core.List.{List, [], ◌∷◌, ◌++◌}
use seplogic.Ra.Ura.{Ura}
use lib.Dec.{T}
use mir.Syntax.{Ty, named, imm, ty_ref}
use mir.Val.{Val, has_ty, WT}
use base.Logic.{ent, emp, via, sep, id⊢, emp∗, mono_r, mono∗}
use base.Fml.{ftrue}
use types.Logic.{Logic, sem}
use contract.Lifetimes.{Lfts, Within, lft_at}
use denote.RattleType.{RattleType, Denots, Valss, flat, owns}
use denote.Laws.{Ises, Are, Spells, Tellss, valss, Typed as TypedBy}
use denote.Memory.{lone, pointee}
use denote.Builtin.{One}
use denote.Exit.{Exit, Kept, Last, left, unchanged, yes}
use denote.Ref.{NamedLft}
use denote.Signature.{Slot, plain, types_at, named_lft}
use denote.Struct.Field.{Field, shr_ref_field}
use denote.Struct.Laws as LL
use denote.Triple.End.{Fins, all}
use denote.Triple.Walked.{Stays, stay_dropped, fits_of, has_of, AllGo, Silent, Goes-dropped}
use Rattle.lent.proofs.Extras.{Values, Typed, values}

-- a plain value; and a reference to an R, at the callee's lifetime j of n
pub data PassedOn (n : ℕ) : Type 2 where
  value : (F : Field) → LL.FLaws F → LL.Copyable F → PassedOn n
  shared : (j : ℕ) → Within n j → (R : RattleType) → One R.mir → PassedOn n

-- ---- one of them, as a field of the callee and of the caller

abbrev named_next : (n j : ℕ) → Within n j → Lfts n → NamedLft
named_next n j ok κs = record { mir = named (suc j); lft = lft_at n j ok κs }

module _ {n : ℕ} (κs : Lfts n) where
  abbrev pub inside : PassedOn n → Field
  inside (value F l c) = F
  inside (shared j ok R one) = shr_ref_field (named_lft n j ok κs) R one

  abbrev pub outside : PassedOn n → Field
  outside (value F l c) = F
  outside (shared j ok R one) = shr_ref_field (named_next n j ok κs) R one

  abbrev pub laws : (p : PassedOn n) → LL.FLaws (outside p)
  laws (value F l c) = l
  laws (shared j ok R one) = LL.shr_ref_laws (named_next n j ok κs) R one

  still : (p : PassedOn n) (k : Kept) → (outside p).row.exit k ≡ unchanged
  still (value F l c) k = c.still k
  still (shared j ok R one) k = refl

  -- they are the same but for the lifetime's number, of which what is owned says nothing
  abbrev cross : (p : PassedOn n) → (outside p).row.Denot → (inside p).row.Denot
  cross (value F l c) x = x
  cross (shared j ok R one) x = x

  cross_owns : {M : Type 1} {𝓤 : Ura M} (𝓛 : Logic 𝓤) (p : PassedOn n) (x : (outside p).row.Denot)
      (vs : List Val)
      → ent 𝓤 (sem 𝓛 ((outside p).row.own_val x vs)) (sem 𝓛 ((inside p).row.own_val (cross p x) vs))
  cross_owns {𝓤 = 𝓤} 𝓛 (value F l c) x vs = id⊢ 𝓤 _
  cross_owns {𝓤 = 𝓤} 𝓛 (shared j ok R one) x vs = id⊢ 𝓤 _

-- ---- all of them: their types in the caller's code, and their places in the two signatures

abbrev type_of : {n : ℕ} → PassedOn n → Ty
type_of (value F l c) = lone F.row.mir
type_of (shared j ok R one) = ty_ref (named (suc j)) imm (pointee R.written)

abbrev pub mirs : {n : ℕ} → List (PassedOn n) → List Ty
mirs [] = []
mirs (p ∷ ps) = type_of p ∷ mirs ps

abbrev pub slots_inside : {n : ℕ} → List (PassedOn n) → List (Slot n)
slots_inside [] = []
slots_inside (p ∷ ps) = plain (λ κs. (inside κs p).row) ∷ slots_inside ps

abbrev pub slots : {n : ℕ} → List (PassedOn n) → List (Slot (suc n))
slots [] = []
slots (p ∷ ps) = plain (λ κs. (outside κs.1 p).row) ∷ slots ps

pub one_typed : (τs : List Ty) (v : Val) → TypedBy τs (v ∷ []) → T (has_ty (lone τs) v) × WT v
one_typed [] v t = absurd t
one_typed (τ ∷ []) v t = t.0
one_typed (τ ∷ σ ∷ τs) v t = absurd t.1

module _ {n : ℕ} (κs : Lfts (suc n)) where
  abbrev pub rows : List (PassedOn n) → List RattleType
  rows ps = types_at (slots ps) κs

  abbrev pub rows_inside : List (PassedOn n) → List RattleType
  rows_inside ps = types_at (slots_inside ps) κs.1

  -- their machine values
  abbrev pub spelled : (ps : List (PassedOn n)) → Spells (rows ps)
  spelled [] = tt
  spelled (p ∷ ps) = ((λ y. (laws κs.1 p).val y ∷ []), spelled ps)

  pub told : (ps : List (PassedOn n)) → Tellss (rows ps) (Ises (rows ps)) (spelled ps)
  told [] = tt
  told (p ∷ ps) = ((laws κs.1 p).tells, told ps)

  abbrev pub machine : (ps : List (PassedOn n)) → Denots (rows ps) → Values (mirs ps)
  machine [] a = tt
  machine (p ∷ ps) a = ((laws κs.1 p).val a.0, machine ps a.1)

  -- in a row they are what the function is passed, and each is of its type
  pub in_a_row : (ps : List (PassedOn n)) (a : Denots (rows ps))
      → values (mirs ps) (machine ps a) ≡ flat (rows ps) (valss (rows ps) (spelled ps) a)
  in_a_row [] a = refl
  in_a_row (p ∷ ps) a = ap (λ (us : List Val). (laws κs.1 p).val a.0 ∷ us) (in_a_row ps a.1)

  is_typed : (p : PassedOn n) (v : Val) → TypedBy (outside κs.1 p).row.mir (v ∷ [])
      → T (has_ty (type_of p) v) × WT v
  is_typed (value F l c) v t = one_typed F.row.mir v t
  is_typed (shared j ok R one) v t = t.0

  pub typed : {M : Type 1} {𝓤 : Ura M} (𝓛 : Logic 𝓤) (ps : List (PassedOn n))
      (a : Denots (rows ps)) → Are (rows ps) (Ises (rows ps)) a (valss (rows ps) (spelled ps) a)
      → Typed (mirs ps) (machine ps a)
  typed 𝓛 [] a are = tt
  typed {𝓤 = 𝓤} 𝓛 (p ∷ ps) a are = (
    is_typed p ((laws κs.1 p).val a.0) (((laws κs.1 p).lawful 𝓛).typed a.0 _ are.0),
    typed 𝓛 ps a.1 are.1,
  )

  -- ---- from the caller to the callee

  abbrev pub across : (ps : List (PassedOn n)) → Denots (rows ps) → Denots (rows_inside ps)
  across [] a = tt
  across (p ∷ ps) a = (cross κs.1 p a.0, across ps a.1)

  abbrev pub across_values : (ps : List (PassedOn n)) → Valss (rows ps) → Valss (rows_inside ps)
  across_values [] vss = tt
  across_values (p ∷ ps) vss = (vss.0, across_values ps vss.1)

  pub across_flat : (ps : List (PassedOn n)) (vss : Valss (rows ps))
      → flat (rows ps) vss ≡ flat (rows_inside ps) (across_values ps vss)
  across_flat [] vss = refl
  across_flat (p ∷ ps) vss = ap (λ (us : List Val). vss.0 ++ us) (across_flat ps vss.1)

  pub across_owns : {M : Type 1} {𝓤 : Ura M} (𝓛 : Logic 𝓤) (ps : List (PassedOn n)) (a : Denots (rows ps))
      (vss : Valss (rows ps))
      → ent 𝓤 (sem 𝓛 (owns (rows ps) a vss))
      (sem 𝓛 (owns (rows_inside ps) (across ps a) (across_values ps vss)))
  across_owns {𝓤 = 𝓤} 𝓛 [] a vss = id⊢ 𝓤 _
  across_owns {𝓤 = 𝓤} 𝓛 (p ∷ ps) a vss =
      mono∗ 𝓤 (cross_owns κs.1 𝓛 p a.0 vss.0) (across_owns 𝓛 ps a.1 vss.1)

  -- ---- at exit

  -- what is bound for them
  pub lasting : (ps : List (PassedOn n)) (a : Denots (rows ps)) → Fins κs (slots ps) (all yes (slots ps)) a
  lasting [] a = tt
  lasting (p ∷ ps) a = (
    subst (λ (e : Exit (outside κs.1 p).row.Denot). Last e a.0) (sym (still κs.1 p yes)) tt,
    lasting ps a.1,
  )

-- what there is of them is dropped
abbrev pub dropped : {n : ℕ} (ps : List (PassedOn n)) → Stays (slots ps) (all yes (slots ps))
dropped [] = tt
dropped (p ∷ ps) = (stay_dropped (plain (λ κs. (outside κs.1 p).row)) yes, dropped ps)

module _ {n : ℕ} where
  pub fits : (κs : Lfts (suc n)) (ps : List (PassedOn n)) (a : Denots (rows κs ps))
      (ws : Fins κs (slots ps) (all yes (slots ps)) a) → fits_of κs (slots ps) (all yes (slots ps)) (dropped ps) a ws
  fits κs [] a ws = tt
  fits κs (p ∷ ps) a ws = (tt, fits κs ps a.1 ws.1)

  module _ {M : Type 1} {𝓤 : Ura M} (𝓛 : Logic 𝓤) where
    pub had : (κs : Lfts (suc n)) (ps : List (PassedOn n)) (a : Denots (rows κs ps))
        (ws : Fins κs (slots ps) (all yes (slots ps)) a) (vss : Valss (rows κs ps))
        → ent 𝓤 (emp 𝓤) (sem 𝓛 (has_of κs (slots ps) (all yes (slots ps)) (dropped ps) a ws vss))
    had κs [] a ws vss = id⊢ 𝓤 (emp 𝓤)
    had κs (p ∷ ps) a ws vss =
        via 𝓤 (sep 𝓤 (emp 𝓤) (emp 𝓤)) (emp∗ 𝓤 (emp 𝓤)) (mono_r 𝓤 (emp 𝓤) (had κs ps a.1 ws.1 vss.1))

    silent : (p : PassedOn n)
        → Silent 𝓛 (suc n) (plain (λ κs. (outside κs.1 p).row)) yes
    silent p κs =
        subst (λ (e : Exit (outside κs.1 p).row.Denot). (x : (outside κs.1 p).row.Denot) (f : Last e x)
        → left e x f ≡ ftrue) (sym (still κs.1 p yes)) (λ x f. refl)

    pub go_dropped : (ps : List (PassedOn n))
        → AllGo 𝓛 (suc n) (slots ps) (all yes (slots ps)) (dropped ps)
    go_dropped [] = tt
    go_dropped (p ∷ ps) = (
      Goes-dropped 𝓛 (suc n) (plain (λ κs. (outside κs.1 p).row)) yes (silent p),
      go_dropped ps,
    )

-- The laws of "first that applies" (`specs/Told.antt`): the first number that is not 0 decides; what is accepted has
-- passed every line; and what holds of every line's number, and of 0, holds of the number that is told. Assumes
-- nothing.
use mathlib.Core.Path.{◌≡◌, refl, sym, ap}
use mathlib.Core.Bool.{Bool, true, false, cond}
use mathlib.Core.List.{List, [], ◌∷◌}
use Prim.Native.Nat.{ℕ, suc}
use native.Mathlib.Omega.{arith}
use borrow.Author.Tests.{eqb-true, eqb-false}
use lib.Dec.{eqb}
use Rattle.general.specs.Each.{Each}
use Rattle.refusals.specs.Numbers.{accepted}
use Rattle.refusals.specs.Told.{given, or_else, first, Told, alone, at_entry}

-- ---- a number that is not 0 decides, and after a 0 the next does

pub first_decides : (n : ℕ) (ns : List ℕ) → eqb n accepted ≡ false → first (n ∷ ns) ≡ n
unfolding first
first_decides n ns h = ap (λ (t : Bool). cond t (first ns) n) h

pub next_decides : (n : ℕ) (ns : List ℕ) → n ≡ accepted → first (n ∷ ns) ≡ first ns
unfolding first
next_decides n ns h = rw h

-- of an entry's number and what comes later
module _ (n i : ℕ) (later : Told) where
  pub told_here : eqb n accepted ≡ false → at_entry n i later ≡ record { number = n; of_entry = i }
  unfolding at_entry
  told_here h = rw h

  pub told_later : n ≡ accepted → at_entry n i later ≡ later
  unfolding at_entry
  told_later h = rw h

  -- what an entry by itself is told decides, unless it is 0
  pub entry_decides : {t : Told} → at_entry n i (alone accepted) ≡ t → eqb t.number accepted ≡ false
      → at_entry n i later ≡ t
  unfolding at_entry
  entry_decides {t} = go (eqb n accepted)
    where
      go : (b : Bool) → cond b (alone accepted) (record { number = n; of_entry = i }) ≡ t
          → eqb t.number accepted ≡ false
          → cond b later (record { number = n; of_entry = i }) ≡ t
      go true e h = absurd (eqb-false t.number accepted h (sym (ap (λ (t : Told). t.number) e)))
      go false e h = e

-- ---- what is accepted has passed every line

-- a line that gives no number does not apply
pub not_given : (applies : Bool) (n : ℕ) → given applies (suc n) ≡ accepted → applies ≡ false
not_given false n e = refl
not_given true n e = let no : ⊥ = omega arith in absurd no

-- of two numbers, the later counts only where the earlier is 0
later_counts : (n m : ℕ) → or_else n m ≡ accepted → (n ≡ accepted) × (m ≡ accepted)
later_counts n m = go (eqb n accepted) refl
  where
    go : (t : Bool) → eqb n accepted ≡ t → cond t m n ≡ accepted → (n ≡ accepted) × (m ≡ accepted)
    go true e h = (eqb-true n accepted e, h)
    go false e h = absurd (eqb-false n accepted e h)

pub first_passed : (n : ℕ) (ns : List ℕ) → first (n ∷ ns) ≡ accepted → (n ≡ accepted) × (first ns ≡ accepted)
unfolding first
first_passed n ns = later_counts n (first ns)

pub entry_passed : (n i : ℕ) (later : Told) → (at_entry n i later).number ≡ accepted
    → (n ≡ accepted) × (later.number ≡ accepted)
unfolding at_entry
entry_passed n i later = go (eqb n accepted) refl
  where
    go : (t : Bool) → eqb n accepted ≡ t → (cond t later (record { number = n; of_entry = i })).number ≡ accepted
        → (n ≡ accepted) × (later.number ≡ accepted)
    go true e h = (eqb-true n accepted e, h)
    go false e h = absurd (eqb-false n accepted e h)

-- ---- what holds of 0 and of every line's number holds of the number that is told

module _ (P : ℕ → Type 0) (none : P accepted) where
  pub given_keeps : (applies : Bool) (n : ℕ) → P n → P (given applies n)
  given_keeps true n h = h
  given_keeps false n h = none

  -- of the two, one is chosen
  chosen : (t : Bool) (n m : ℕ) → P n → P m → P (cond t m n)
  chosen true n m h k = k
  chosen false n m h k = h

  pub first_keeps : (ns : List ℕ) → Each P ns → P (first ns)
  unfolding first
  first_keeps [] h = none
  first_keeps (n ∷ ns) h = chosen (eqb n accepted) n (first ns) h.0 (first_keeps ns h.1)

pub entry_keeps : (P : ℕ → Type 0) (n i : ℕ) (later : Told) → P n → P later.number → P (at_entry n i later).number
unfolding at_entry
entry_keeps P n i later h k = go (eqb n accepted)
  where
    go : (t : Bool) → P (cond t later (record { number = n; of_entry = i })).number
    go true = k
    go false = h

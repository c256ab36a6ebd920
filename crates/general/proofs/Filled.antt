-- A run that a loop fills from the front: with what belongs at each place, with what g makes of what stands there in
-- another, or of what stands there in itself. Assumes nothing.
use mathlib.Core.Path.{◌≡◌, sym, ap, ◌∙◌}
use mathlib.Core.List.{List, ◌++◌, map, append-nil}
use Prim.Native.Nat.{ℕ, suc, ◌+◌, ◌≤◌, ◌<◌}
use native.Mathlib.Numerals.{add-one}
use native.Mathlib.Omega.{arith}
use lib.ListN.{length, get_or, take, drop, set, drop_of_length-le, length-map}
use lib.Seq.{take-suc, drop-cons, append_snoc, set_at, get_or_at, length-take-le, take_all}
use Rattle.general.proofs.Lists.{map_at}

-- ---- a run that is being filled

module _ {A : Type 0} where
  -- n places of `before` filled from `after`, the others as they were
  abbrev pub filled : List A → List A → ℕ → List A
  filled before after n = take n after ++ drop n before

  -- a turn of the loop that fills: what is stored is what belongs there
  pub fill : (before after now : List A) (n : ℕ) (d : A) {a : A} → length after ≡ length before → n < length before
      → now ≡ filled before after n → a ≡ get_or after n d → set now n a ≡ filled before after (n + 1)
  fill before after now n d same h is belongs =
      let done : length (take n after) ≡ n = length-take-le n after (omega arith) in
      rw (is, belongs, drop-cons before n d h)
      (set_at (take n after) (get_or before n d) (drop (suc n) before) (get_or after n d) n done
      ∙ sym (append_snoc (take n after) (get_or after n d) (drop (suc n) before))
      ∙ rw (add-one, take-suc after n d (omega arith)))

  -- the next place is as it was
  pub filled_at : (before after : List A) (n : ℕ) (d : A) → n < length before → n ≤ length after
      → get_or (filled before after n) n d ≡ get_or before n d
  filled_at before after n d hb ha =
      ap (λ (r : List A). get_or (take n after ++ r) n d) (drop-cons before n d hb)
      ∙ get_or_at (take n after) (get_or before n d) (drop (suc n) before) d n (length-take-le n after ha)

  -- all places filled: nothing of before is left
  pub filled_all : (before after : List A) (n : ℕ) → length before ≡ n → length after ≡ n
      → filled before after n ≡ after
  filled_all before after n hb ha =
      let nothing : length before ≤ n = omega arith in
      rw (take_all n after (omega arith), drop_of_length-le before nothing) (append-nil after)

-- ---- a run that is being filled with what g makes of each of another, which is as long

module _ {A B : Type 0} (g : A → B) (from : List A) (before : List B) (same : length from ≡ length before) where
  -- a turn of the loop
  pub fill_mapped : (now : List B) (i : ℕ) (c : A) (d : B) {b : B} → i < length before
      → now ≡ filled before (map g from) i → b ≡ g (get_or from i c)
      → set now i b ≡ filled before (map g from) (i + 1)
  fill_mapped now i c d h is belongs =
      fill before (map g from) now i d (length-map from g ∙ same) h is
      (belongs ∙ sym (map_at g c d from i (rw same h)))

  -- the end of it
  pub filled_mapped : (i : ℕ) → length before ≡ i → filled before (map g from) i ≡ map g from
  filled_mapped i e = filled_all before (map g from) i e (length-map from g ∙ same ∙ e)

-- ---- a run that is being filled with what g makes of each number of its own, where it stands

module _ {A : Type 0} (g : A → A) (before : List A) where
  -- a turn of the loop: the next place is still as it was
  pub fill_in_place : (now : List A) (i : ℕ) (d : A) {a : A} → i < length before
      → now ≡ filled before (map g before) i → a ≡ g (get_or now i d)
      → set now i a ≡ filled before (map g before) (i + 1)
  fill_in_place now i d h is belongs =
      let read : get_or now i d ≡ get_or before i d =
      ap (λ (l : List A). get_or l i d) is
      ∙ filled_at before (map g before) i d h (omega (arith, length-map before g)) in
      fill before (map g before) now i d (length-map before g) h is
      (belongs ∙ ap g read ∙ sym (map_at g d d before i h))

  -- the end of it
  pub filled_in_place : (i : ℕ) → length before ≡ i → filled before (map g before) i ≡ map g before
  filled_in_place i e = filled_all before (map g before) i e (length-map before g ∙ e)

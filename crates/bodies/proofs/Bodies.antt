-- The bodies of an accepted sheet: each lies within it and has 16 or 20 bytes, and after the contents they tile it.
-- Assumes nothing.
use mathlib.Core.Path.{◌≡◌, refl, sym, ap, ◌∙◌}
use mathlib.Core.Bool.{Bool, true, false, cond, ◌&&◌, false≢true}
use mathlib.Core.List.{List, [], ◌++◌}
use mathlib.Core.Logic.{◌⊎◌, inl, inr}
use Prim.Native.Nat.{ℕ, zero, suc, ◌+◌, ◌-◌, ◌≤◌, ◌<◌}
use native.Mathlib.Nat.{add-zero, add-suc, suc-add}
use native.Mathlib.Numerals.{add-one}
use native.Mathlib.Omega.{arith}
use lib.Dec.{ltb, eqb}
use lib.ListN.{length, take, drop, length-drop, drop_of_length-le, take-append-drop}
use lib.Seq.{length-take-le, drop-drop}
use borrow.Author.Tests.{lt-ltb, le-ltb, eq-eqb, ltb-true, eqb-true}
use Rattle.refusals.specs.Numbers.{accepted}
use Rattle.entries.specs.Layout.{count_of, entry_at, kind_of, offset_of, body_size, body_at}
use Rattle.sheet.specs.Table.{judged}
use Rattle.sheet.proofs.Walk.{body_first, body_next}
use Rattle.sheet.proofs.Accepted.{Accepted, is_accepted_lem}
use Rattle.bodies.specs.Body.{has_body, body_of, handed_back, handed_at}
use Rattle.bodies.specs.Place.{place_of}

-- ---- within the sheet

-- no body begins before one before it
body_order : (s : List ℕ) (i n : ℕ) → body_at s i ≤ body_at s (i + n)
body_order s i zero = rw add-zero (omega arith)
body_order s i (suc n) =
    let so_far : body_at s i ≤ body_at s (i + n) = body_order s i n in
    rw (add-suc, ← add-one (i + n), body_next) (omega arith)

module _ {s : List ℕ} (known : Accepted s) (i : ℕ) (under : i < count_of s) where
  -- a body ends within the sheet
  pub body_within : offset_of s i + body_size (kind_of s i) ≤ length s
  body_within =
      let last : i + 1 + (count_of s - (i + 1)) ≡ count_of s = omega arith in
      let order = body_order s (i + 1) (count_of s - (i + 1)) in
      let end : body_at s (i + 1) ≤ length s = rw (last, known.ends) at order in
      rw ((known.entries i under).offset, ← body_next) end

  -- so it has all its bytes
  pub body_length : length (body_of s i) ≡ body_size (kind_of s i)
  unfolding body_of
  body_length =
      length-take-le (body_size (kind_of s i)) (drop (offset_of s i) s)
      (let room : offset_of s i + body_size (kind_of s i) ≤ length s = body_within in rw length-drop (omega arith))

-- which are 16 or 20
pub sixteen_or_twenty : (kind : ℕ) → (body_size kind ≡ 16) ⊎ (body_size kind ≡ 20)
unfolding body_size
sixteen_or_twenty kind = go (eqb kind 0)
  where
    go : (t : Bool) → (cond {A = ℕ} t 16 20 ≡ 16) ⊎ (cond {A = ℕ} t 16 20 ≡ 20)
    go true = inl refl
    go false = inr refl

-- ---- the tiling

-- the bodies of `left` entries from entry i on, one after another
unfoldable pub bodies_from : List ℕ → ℕ → ℕ → List ℕ
bodies_from s i zero = []
bodies_from s i (suc left) = body_of s i ++ bodies_from s (suc i) left

rest_tiled : (s : List ℕ) → Accepted s → (left i : ℕ) → i + left ≡ count_of s → drop (body_at s i) s
    ≡ bodies_from s i left
unfolding bodies_from body_of
rest_tiled s known zero i e =
    drop_of_length-le s {i = body_at s i}
    (let all : i ≡ count_of s = rw add-zero at e in let end = known.ends in rw all (omega arith))
rest_tiled s known (suc left) i e =
    let under : i < count_of s = omega arith in
    let next = rest_tiled s known left (suc i) (rw (suc-add, ← add-suc) e) in
    let size = body_size (kind_of s i) in
    rw ((known.entries i under).offset, ← next, ← add-one i, body_next, ← drop-drop)
    (sym (take-append-drop size (drop (body_at s i) s)))

-- the contents, then the bodies, are the sheet
pub tiled : (s : List ℕ) → Accepted s → s ≡ take (entry_at (count_of s)) s ++ bodies_from s 0 (count_of s)
tiled s known =
    sym (take-append-drop (entry_at (count_of s)) s) ∙ ap (λ (l : List ℕ). take (entry_at (count_of s)) s ++ l)
    (rw body_first at (rest_tiled s known (count_of s) 0 (omega arith)))

-- ---- what is handed back

module _ (s : List ℕ) (i : ℕ) where
  pub none_of_refused : eqb (judged s).number accepted ≡ false → has_body s i ≡ false
  unfolding has_body
  none_of_refused h = rw h

  module _ (is : (judged s).number ≡ accepted) where
    pub none_past : count_of s ≤ i → has_body s i ≡ false
    unfolding has_body
    none_past h = rw (eq-eqb (judged s).number accepted is, le-ltb i (count_of s))

    pub body_under : i < count_of s → has_body s i ≡ true
    unfolding has_body
    body_under h = rw (eq-eqb (judged s).number accepted is, lt-ltb i (count_of s))

-- there is one of an accepted sheet alone, and of its entries
has_when : (s : List ℕ) (i : ℕ) → has_body s i ≡ true → ((judged s).number ≡ accepted) × (i < count_of s)
unfolding has_body
has_when s i h = go (eqb (judged s).number accepted) refl h
  where
    go : (t : Bool) → eqb (judged s).number accepted ≡ t → t && ltb i (count_of s) ≡ true
        → ((judged s).number ≡ accepted) × (i < count_of s)
    go true is under = (eqb-true (judged s).number accepted is, ltb-true i (count_of s) under)
    go false is never = absurd (false≢true never)

module _ (s : List ℕ) (i : ℕ) where
  -- where there is none, an empty part at the start
  pub none_placed : has_body s i ≡ false → place_of s i ≡ record { at = 0; size = 0 }
  unfolding handed_back handed_at
  none_placed none = rw none

  -- else the body, where it stands
  pub body_placed : has_body s i ≡ true → place_of s i ≡ record { at = offset_of s i; size = body_size (kind_of s i) }
  unfolding handed_back handed_at
  body_placed has =
      let when = has_when s i has in
      rw has
      (ap (λ (n : ℕ). record { at = offset_of s i; size = n }) (body_length (is_accepted_lem s when.0) i when.1))

  -- a part that lies within the sheet
  pub place_within : handed_at s i + length (handed_back s i) ≤ length s
  unfolding handed_back handed_at
  place_within = go (has_body s i) refl
    where
      go : (t : Bool) → has_body s i ≡ t → cond t (offset_of s i) 0 + length (cond t (body_of s i) []) ≤ length s
      go true has =
          let when = has_when s i has in let known = is_accepted_lem s when.0 in
          rw (body_length known i when.1) (body_within known i when.1)
      go false none = omega arith

  -- and has the bytes that are handed back
  pub place_bytes : take (length (handed_back s i)) (drop (handed_at s i) s) ≡ handed_back s i
  unfolding handed_back handed_at body_of
  place_bytes = go (has_body s i) refl
    where
      go : (t : Bool) → has_body s i ≡ t
          → take (length (cond t (body_of s i) [])) (drop (cond t (offset_of s i) 0) s) ≡ cond t (body_of s i) []
      go true has = let when = has_when s i has in rw (body_length (is_accepted_lem s when.0) i when.1)
      go false none = refl

-- of an accepted sheet, every entry's body is handed back whole: 16 or 20 bytes
pub handed_length : (s : List ℕ) (i : ℕ) → (judged s).number ≡ accepted → i < count_of s
    → (length (handed_back s i) ≡ 16) ⊎ (length (handed_back s i) ≡ 20)
unfolding handed_back
handed_length s i is under =
    rw (body_under s i is under, body_length (is_accepted_lem s is) i under) (sixteen_or_twenty (kind_of s i))

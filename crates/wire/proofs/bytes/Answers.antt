-- `wire::bytes` meets its contract: each call of the closure leaves it as it is, and gives the byte at its place.
-- Assumes nothing.
use mathlib.Core.Path.{◌≡◌, refl, sym, subst}
use mathlib.Core.Bool.{Bool, true, false}
use mathlib.Core.List.{List}
use mathlib.Core.Logic.{inl, inr}
use Prim.Native.Nat.{ℕ, zero, suc, ◌+◌, ◌-◌, ◌^◌, ◌≤◌, ◌<◌}
use native.Mathlib.Nat.{eq-or-lt_of_le}
use native.Mathlib.Omega.{arith}
use lib.Dec.{leb}
use lib.ListN.{length, get_or}
use borrow.Author.Tests.{leb-true, leb-false}
use denote.Param.Members.{Mut, Called}
use Rattle.std.proofs.Common.{rules, min}
use Rattle.std.proofs.lemmas.List.{get_or_past}
use Rattle.std.specs.Array.{IsFromFnResultFrom}
use Rattle.wire.specs.Bytes.{read_at}
use Rattle.wire.proofs.LittleEndian.{read_at_one}
use Rattle.wire.proofs.bytes.Goals as goal

-- what calls of f made that leave f as it is has at each index what the call there gives
made_each : {F B : Type 0} (g : Mut F (ℕ × Unit {0}) B) (Q : ℕ → B → Type 0) (f : F)
    → ((i : ℕ) (y : B) (q : F) → Called g f (i, tt) y q → Q i y × (q ≡ f))
    → (ys : List B) (i n : ℕ) → IsFromFnResultFrom g f ys i n
    → (k : ℕ) (d : B) → i ≤ k → k < i + n → Q k (get_or ys k d)
made_each g Q f step ys i zero made k d low high = absurd (omega arith)
made_each g Q f step ys i (suc n) (q, y, at, call, rest) k d low high =
    elim (eq-or-lt_of_le low) [
      | inl e ↦ subst (λ j. Q j (get_or ys j d)) e (subst (Q i) (sym (at.1 d)) (step i y q call).0)
      | inr l ↦ made_each g Q f step ys (i + 1) n
          (subst (λ p. IsFromFnResultFrom g p ys (i + 1) n) (step i y q call).1 rest) k d (omega arith) (omega arith)
    ]

-- the largest place is past the end, and so is every place over it
byte_at_most : (s : List ℕ) (most i : ℕ) → length s ≤ most → read_at 1 s (min i most) ≡ get_or s i 0
byte_at_most s most i h = go (leb i most) refl
  where
    go : (t : Bool) → leb i most ≡ t → read_at 1 s (min i most) ≡ get_or s i 0
    go true e =
        let under : i ≤ most = leb-true _ _ e in
        let same : min i most ≡ i = omega arith in
        rw (same, read_at_one)
    go false e =
        let over : most < i = leb-false _ _ e in
        rw (read_at_one, get_or_past s (min i most) 0 (omega arith), get_or_past s i 0 (omega arith))

pub returns : goal.returns
returns g c =
    let s = c.args.s.now in
    let made = c.from_fn.ensures.items.each in
    let long : length s ≤ 2 ^ 64 - 1 = omega arith in
    λ i h.
    made_each _ (λ k y. y ≡ get_or s (c.args.at + k) 0) _ (λ k y q e. search (rules, byte_at_most)) _ 0 _ made i 0
    (omega arith) (omega arith)

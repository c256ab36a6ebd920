-- The walk over the entries, one more at a time: `left` of them are still to come after entry i. Assumes nothing.
use mathlib.Core.Path.{◌≡◌, refl}
use mathlib.Core.Bool.{Bool, true, false, cond}
use mathlib.Core.List.{List}
use Prim.Native.Nat.{ℕ, zero, suc, ◌+◌, ◌-◌, ◌*◌, ◌≤◌, ◌<◌}
use native.Mathlib.Numerals.{add-one}
use native.Mathlib.Omega.{arith}
use lib.Dec.{eqb}
use lib.ListN.{length}
use borrow.Author.Tests.{eq-eqb, ne_eqb}
use Rattle.refusals.specs.Numbers.{accepted, bad_end}
use Rattle.refusals.specs.Told.{Told, alone}
use Rattle.refusals.proofs.First.{entry_passed, entry_decides, told_later}
use Rattle.entries.specs.Layout.{count_of, entry_at, kind_of, body_size, body_at}
use Rattle.sheet.specs.Table.{entry_number, entry_told, end_number, entries_told}

-- ---- where the bodies end

pub body_first : (s : List ℕ) → body_at s 0 ≡ entry_at (count_of s)
unfolding body_at
body_first s = refl

pub body_next : (s : List ℕ) (i : ℕ) → body_at s (i + 1) ≡ body_at s i + body_size (kind_of s i)
unfolding body_at
body_next s i = rw add-one

-- a body has at most 20 bytes
pub size_most : (kind : ℕ) → body_size kind ≤ 20
unfolding body_size
size_most kind = go (eqb kind 0)
  where
    go : (t : Bool) → cond t 16 20 ≤ 20
    go true = omega arith
    go false = omega arith

-- so no end is far
pub body_most : (s : List ℕ) (i : ℕ) → body_at s i ≤ entry_at (count_of s) + 20 * i
body_most s zero = rw body_first (omega arith)
body_most s (suc i) =
    let before : body_at s i ≤ entry_at (count_of s) + 20 * i = body_most s i in
    rw (← add-one i, body_next) (omega (arith, size_most (kind_of s i)))

-- ---- what the entries are told

-- of k entries, i are behind
pub one_less : (i k : ℕ) → i < k → k - i ≡ suc (k - (i + 1))
one_less i k h = omega arith

module _ (s : List ℕ) (i k : ℕ) (under : i < k) where
  -- an entry with which nothing is wrong is passed
  pub told_passed : (entry_told s i (body_at s i)).number ≡ accepted
      → entries_told s i (k - i) ≡ entries_told s (i + 1) (k - (i + 1))
  unfolding entries_told
  told_passed h =
      rw (one_less i k, add-one)
      (told_later _ _ _ (entry_passed (entry_number s i (body_at s i)) i (alone accepted) h).0)

  -- a refusal is what is told
  pub told_refused : {t : Told} → entry_told s i (body_at s i) ≡ t → eqb t.number accepted ≡ false
      → entries_told s i (k - i) ≡ t
  unfolding entries_told
  told_refused h d = rw (one_less i k) (entry_decides (entry_number s i (body_at s i)) i _ h d)

-- after the last entry the end of its body decides
pub told_end : (s : List ℕ) (k : ℕ) → entries_told s k (k - k) ≡ alone (end_number s)
unfolding entries_told
told_end s k = let none : k - k ≡ 0 = omega arith in rw none

pub end_refused : (s : List ℕ) → (body_at s (count_of s) ≡ length s → ⊥) → end_number s ≡ bad_end
unfolding end_number
end_refused s d = rw (ne_eqb (body_at s (count_of s)) (length s) d)

pub end_accepted : (s : List ℕ) → body_at s (count_of s) ≡ length s → end_number s ≡ accepted
unfolding end_number
end_accepted s e = rw (eq-eqb (body_at s (count_of s)) (length s) e)

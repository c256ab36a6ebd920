-- The body of an entry (document 01, 'The command sheet (ours)'). Definitions only; the quotations are document 01's.
use Rattle.std.specs.Prelude.{◌≡◌, Bool, cond, ◌&&◌, List, [], ℕ, ◌+◌, ltb, eqb, take, drop}
use Rattle.std.specs.Borrow.{Bor}
use Rattle.refusals.specs.Numbers.{accepted}
use Rattle.entries.specs.Layout.{count_of, kind_of, offset_of, body_size}
use Rattle.sheet.specs.Table.{judged}

-- "0 | accepted"
abbrev pub is_accepted : List ℕ → Bool
is_accepted s = eqb (judged s).number accepted

-- whether there is a body to hand back: not "for a refused sheet or i not under k"
unfoldable pub has_body : List ℕ → ℕ → Bool
has_body s i = is_accepted s && ltb i (count_of s)

-- the bytes of entry i's body, which is at its offset
unfoldable pub body_of : List ℕ → ℕ → List ℕ
body_of s i = take (body_size (kind_of s i)) (drop (offset_of s i) s)

-- "hands back the body of entry i as that part of the sheet", or "an empty part": its bytes, and where in the sheet it
-- begins, an empty one at the start
unfoldable pub handed_back : List ℕ → ℕ → List ℕ
handed_back s i = cond (has_body s i) (body_of s i) []

unfoldable pub handed_at : List ℕ → ℕ → ℕ
handed_at s i = cond (has_body s i) (offset_of s i) 0

-- The part that is handed back is one "of the sheet" that was lent, and no copy. A reference points to a place in a
-- block of memory; the part's is in the sheet's block, as many bytes after the sheet's as the part begins after the
-- sheet.
pub record Handed (sheet : Bor (List ℕ)) (i : ℕ) (part : Bor (List ℕ)) : Type 0 where
  pub bytes : part.now ≡ handed_back sheet.now i
  pub block : part.ref_ptr.0 ≡ sheet.ref_ptr.0
  pub place : part.ref_ptr.1 ≡ handed_at sheet.now i + sheet.ref_ptr.1

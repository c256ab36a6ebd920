-- The laws of a part of what is printed: how many bytes it has at most, and that parts which are written one after the
-- other are one part. Assumes nothing.
use mathlib.Core.Path.{◌≡◌, refl, sym, ◌∙◌}
use mathlib.Core.Bool.{Bool, true, false, cond}
use mathlib.Core.List.{List, [], ◌∷◌, ◌++◌}
use Prim.Native.Nat.{ℕ, zero, suc, ◌+◌, ◌-◌, ◌*◌, ◌/◌, ◌^◌, ◌≤◌, ◌<◌}
use native.Mathlib.Nat.{add-zero, pow-succ'}
use native.Mathlib.Numerals.{add-one}
use native.Mathlib.Omega.{arith}
use lib.Dec.{ltb}
use lib.ListN.{length, length-append}
use borrow.Author.Tests.{lt-ltb}
use Rattle.wire.specs.Bytes.{write_at}
use Rattle.wire.proofs.LittleEndian.{write_at_append, write_at_length, write_at_nothing}
use Rattle.entries.specs.Layout.{kind_of, answer_size}
use Rattle.text.specs.Digits.{hex_of, decimal_within, decimal_of}
use Rattle.lines.specs.declared.Page.{Page}
use Rattle.lines.specs.Lines.{word_at, line_of, lines_from, Written, Put}

-- ---- how many bytes

-- a number under 10 ^ suc j has at most suc j digits
decimal_few : (j k n : ℕ) → n < 10 ^ suc j → length (decimal_within k n) ≤ suc j
unfolding decimal_within
decimal_few j zero n h = omega arith
decimal_few zero (suc k) n h = rw (lt-ltb n 10 (omega arith)) (omega arith)
decimal_few (suc j) (suc k) n h =
    let held : n < 10 * 10 ^ suc j = rw pow-succ' at h in
    rw length-append (omega (arith, go (ltb n 10) (decimal_few j k (n / 10) (omega arith))))
  where
    go : (t : Bool) → length (decimal_within k (n / 10)) ≤ suc j
        → length (cond t [] (decimal_within k (n / 10))) ≤ suc j
    go true r = omega arith
    go false r = r

-- a byte has at most three
pub byte_few : {n : ℕ} → n < 256 → length (decimal_of n) ≤ 3
unfolding decimal_of
byte_few {n} h = decimal_few 2 n n (omega arith)

-- a float's bits have eight
hex_eight : (bits : ℕ) → length (hex_of bits) ≡ 8
unfolding hex_of
hex_eight bits = refl

-- ---- one after the other

-- a part that is written where an earlier one ends is one part with it
pub put_then : {m n : ℕ} {a b : List ℕ} {p q r : Page} → Put m a p q → Put n b q r → Put (m + n) (a ++ b) p r
put_then {a} {b} {p} {q} {r} first then =
    let before = p.text.now in
    let same : length q.text.now ≡ length before = rw first.text (write_at_length before p.at a) in
    let both = length-append a b in
    let room : p.at + length a + length b ≤ length before = omega arith in
    record {
      text = then.text ∙ rw (first.text, first.place) (write_at_append before p.at a b room);
      place = omega arith;
      few = omega arith;
      inside = omega arith;
      same = then.same ∙ first.same;
    }

-- the place after it lies within the text, or at its end
pub put_within : {m : ℕ} {part : List ℕ} {p q : Page} → Put m part p q → q.at ≤ length q.text.now
put_within {part} {p} put = rw (put.text, write_at_length p.text.now p.at part) put.inside

-- a float's digits, written where eight have room
pub put_hex : {bits n : ℕ} {p q : Page} → bits ≡ n → p.at + 8 ≤ length p.text.now
    → q.text.now ≡ write_at p.text.now p.at (hex_of bits) → q.at ≡ p.at + 8
    → q.text.ghost_name ≡ p.text.ghost_name → Put 8 (hex_of n) p q
put_hex {n} e h text place same =
    let eight = hex_eight n in
    record { text = rw e at text; place = omega arith; few = omega arith; inside = omega arith; same = same }

-- nothing is written by doing nothing
pub put_nothing : {p : Page} → p.at ≤ length p.text.now → Put 0 [] p p
put_nothing {p} h =
    record {
      text = sym (write_at_nothing p.text.now p.at);
      place = omega arith;
      few = omega arith;
      inside = h;
      same = refl;
    }

-- it has at most any greater count of bytes
put_most : {m n : ℕ} {part : List ℕ} {p q : Page} → m ≤ n → Put m part p q → Put n part p q
put_most h put =
    record { text = put.text; place = put.place; few = omega (arith, put.few); inside = put.inside; same = put.same }

-- the line of entry i, and then those of the entries after it
pub put_lines : (s answers : List ℕ) (i k : ℕ) {p q r : Page} → i < k → Put 53 (line_of s answers i) p q
    → Put (53 * (k - (i + 1))) (lines_from s answers (i + 1) (k - (i + 1))) q r
    → Put (53 * (k - i)) (lines_from s answers i (k - i)) p r
unfolding lines_from
put_lines s answers i k h first then =
    let e : k - i ≡ suc (k - suc i) = omega arith in
    rw e (put_most (omega arith) (put_then first (rw add-one at then)))

-- ---- a line

-- the line of entry i as far as its first j words
unfoldable pub line_begun : List ℕ → List ℕ → ℕ → ℕ → List ℕ
line_begun s answers i zero = decimal_of i ++ (32 ∷ decimal_of (kind_of s i))
line_begun s answers i (suc j) = line_begun s answers i j ++ word_at answers (answer_size * i + 4 * j)

-- one word more
pub line_more : (s answers : List ℕ) (i j : ℕ) {p q r : Page} → Put (7 + 9 * j) (line_begun s answers i j) p q
    → Put 9 (word_at answers (answer_size * i + 4 * j)) q r → Put (7 + 9 * (j + 1)) (line_begun s answers i (j + 1)) p r
unfolding line_begun
line_more s answers i j put word = rw (add-one j) (put_most (omega arith) (put_then put word))

-- five words and the LF end it
pub line_ended : (s answers : List ℕ) (i : ℕ) → line_begun s answers i 5 ++ (10 ∷ []) ≡ line_of s answers i
unfolding line_begun line_of
line_ended s answers i = rw add-zero

-- ---- at the start of the text

-- there the place after it is its length
pub put_written : {m : ℕ} {line : List ℕ} {p q : Page} → m ≤ 13515 → p.at ≡ 0 → Put m line p q
    → Written line p.text.now q.text.now q.at
put_written {line} {p} h start put =
    record {
      text = rw start at put.text;
      size = omega (arith, put.place);
      room = omega (arith, put.place, put.few);
      within = put_within put;
    }

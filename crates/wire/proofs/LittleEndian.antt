-- The laws of `specs/Bytes.antt`, each over the number of bytes: a number and its bytes, what is read at a place, what
-- a write does to every part of the bytes, and what is read after a write. Assumes nothing.
use mathlib.Core.Path.{◌≡◌, refl, sym, ap, ◌∙◌}
use mathlib.Core.Bool.{Bool, true, false, cond}
use mathlib.Core.List.{List, [], ◌∷◌, ◌++◌, append-nil, append_assoc}
use Prim.Native.Nat.{ℕ, zero, suc, ◌+◌, ◌-◌, ◌*◌, ◌/◌, ◌%◌, ◌^◌, ◌≤◌, ◌<◌}
use native.Mathlib.Nat.{zero-add, add-zero, suc-add, add-suc, add_assoc, one-mul, mul-zero, mul_assoc}
use native.Mathlib.Nat.{mul_comm, mul-add, div-one, div-div-eq-div-mul, mod-mod_of_dvd, dvd-mul_right}
use native.Mathlib.Nat.{pow-succ', not-suc-le-zero, le_of_suc-le-suc, add-sub_of_le}
use native.Mathlib.Omega.{arith}
use lib.Arith.{lt-one, mod-mul, digits_div}
use lib.Dec.{leb, leb-suc-suc}
use lib.ListN.{length, get_or, take, drop, set, length-append, length-drop, drop_of_length-le, take-append-drop}
use lib.Seq.{sets, sets-eq, length-take-le, take-nil, take_at, drop_at, take-append_seam, take-take, drop-drop}
use borrow.Author.Tests.{le-leb, lt-leb, leb-true}
use Rattle.wire.specs.Bytes.{little_endian, bytes_of, read_at, write_at}

-- ---- a number and its bytes

-- k bytes of a number are k
pub bytes_of_length : (k x : ℕ) → length (bytes_of k x) ≡ k
unfolding bytes_of
bytes_of_length zero x = refl
bytes_of_length (suc k) x = ap suc (bytes_of_length k (x / 256))

-- a number that k bytes hold is what its k bytes stand for
pub little_endian_bytes_of : (k : ℕ) {x : ℕ} → x < 256 ^ k → little_endian (bytes_of k x) ≡ x
unfolding little_endian bytes_of
little_endian_bytes_of zero h = sym (lt-one h)
little_endian_bytes_of (suc k) {x} h =
    let above : x / 256 < 256 ^ k = quotient x (256 ^ k) (rw pow-succ' at h) in
    rw (little_endian_bytes_of k above) (omega arith)
  where
    quotient : (x y : ℕ) → x < 256 * y → x / 256 < y
    quotient x y h = omega arith

-- ---- reading at a place

-- the number of a run of bytes is that of its first j, and 256 ^ j times that of those after them
little_endian_take_add : (j k : ℕ) (bs : List ℕ)
    → little_endian (take (j + k) bs) ≡ little_endian (take j bs) + 256 ^ j * little_endian (take k (drop j bs))
unfolding little_endian
little_endian_take_add zero k bs = simp (zero-add, one-mul)
little_endian_take_add (suc j) k [] = rw (suc-add, take-nil, mul-zero)
little_endian_take_add (suc j) k (b ∷ bs) =
    rw (suc-add, little_endian_take_add j k bs, pow-succ', mul-add, mul_assoc, add_assoc)

-- j + k bytes are read as j bytes and the k bytes after them
pub read_at_add : (j k : ℕ) (s : List ℕ) (at : ℕ) → read_at (j + k) s at
    ≡ read_at j s at + 256 ^ j * read_at k s (at + j)
unfolding read_at
read_at_add j k s at = rw (little_endian_take_add j k, drop-drop)

-- one byte is read as it stands, or as 0 past the end
pub read_at_one : (s : List ℕ) (at : ℕ) → read_at 1 s at ≡ get_or s at 0
unfolding read_at little_endian
read_at_one [] zero = refl
read_at_one [] (suc at) = refl
read_at_one (b ∷ s) zero = add-zero b
read_at_one (b ∷ s) (suc at) = read_at_one s at

-- past the end all is 0
pub read_at_past : (k : ℕ) (s : List ℕ) (at : ℕ) → length s ≤ at → read_at k s at ≡ 0
unfolding read_at little_endian
read_at_past k s at h = rw (drop_of_length-le s h, take-nil)

-- ---- writing at a place

module _ (out : List ℕ) (at : ℕ) (bs : List ℕ) where
  -- where the bytes fit, they stand between what was before them and what was after them
  pub write_at_fits : at + length bs ≤ length out → write_at out at bs ≡ take at out ++ bs ++ drop (at + length bs) out
  unfolding write_at
  write_at_fits h = rw (le-leb (at + length bs) (length out))

  -- where they do not, all is kept
  pub write_at_short : length out < at + length bs → write_at out at bs ≡ out
  unfolding write_at
  write_at_short h = rw (lt-leb (at + length bs) (length out))

  -- bytes that fit, stored one by one, are a write
  pub write_at_sets : at + length bs ≤ length out → sets out at bs ≡ write_at out at bs
  write_at_sets h = sets-eq bs out at h ∙ sym (write_at_fits h)

  -- what holds of the bytes placed, if they fit, and of the old bytes, holds of the write
  by_fit : (P : List ℕ → Type 0) → (at + length bs ≤ length out → P (take at out ++ bs ++ drop (at + length bs) out))
      → P out → P (write_at out at bs)
  unfolding write_at
  by_fit P placed kept = go (leb (at + length bs) (length out)) refl
    where
      go : (t : Bool) → leb (at + length bs) (length out) ≡ t
          → P (cond t (take at out ++ bs ++ drop (at + length bs) out) out)
      go true e = placed (leb-true (at + length bs) (length out) e)
      go false e = kept

  -- as many bytes as before
  pub write_at_length : length (write_at out at bs) ≡ length out
  write_at_length =
      by_fit (λ l. length l ≡ length out)
      (λ h. simp (length-append, length-drop, length-take-le at out (omega arith)) (omega arith))
      refl

  -- the bytes before the place are kept
  pub write_at_before : (n : ℕ) → n ≤ at → take n (write_at out at bs) ≡ take n out
  write_at_before n le =
      by_fit (λ l. take n l ≡ take n out)
      (λ h.
      let e : length (take at out) ≡ at = length-take-le at out (omega arith) in
      rw append_assoc (sym (take-take n at _ le) ∙ ap (take n) (take_at (take at out) _ at e) ∙ take-take n at out le))
      refl

  -- so are those after the bytes written
  pub write_at_after : (n : ℕ) → at + length bs ≤ n → drop n (write_at out at bs) ≡ drop n out
  write_at_after n le =
      let end = at + length bs in
      let e : end + (n - end) ≡ n = add-sub_of_le le in
      by_fit (λ l. drop n l ≡ drop n out)
      (λ h.
      let head : length (take at out ++ bs) ≡ end = simp (length-append, length-take-le at out (omega arith)) in
      rw (
        ← e,
        ← drop-drop (n - end) end (take at out ++ bs ++ drop end out),
        drop_at (take at out ++ bs) (drop end out) end head,
        drop-drop,
      ))
      refl

  -- and where they fit, those between are the bytes written
  pub write_at_between : at + length bs ≤ length out → take (length bs) (drop at (write_at out at bs)) ≡ bs
  write_at_between h =
      let head : length (take at out) ≡ at = length-take-le at out (omega arith) in
      rw (
        write_at_fits h,
        append_assoc,
        drop_at (take at out) (bs ++ drop (at + length bs) out) at head,
        take-append_seam,
      )

-- bytes written after bytes written are one write
pub write_at_append : (out : List ℕ) (at : ℕ) (bs cs : List ℕ) → at + length bs + length cs ≤ length out
    → write_at (write_at out at bs) (at + length bs) cs ≡ write_at out at (bs ++ cs)
write_at_append out at bs cs h =
    let first : at + length bs ≤ length out = omega arith in
    let both : at + length (bs ++ cs) ≤ length out = rw (length-append, ← add_assoc) h in
    let second : at + length bs + length cs ≤ length (write_at out at bs) = rw write_at_length h in
    rw (
      ← write_at_sets (write_at out at bs) (at + length bs) cs second,
      ← write_at_sets out at bs first,
      ← write_at_sets out at (bs ++ cs) both,
    ) (sym (sets_append out at bs cs))
  where
    sets_append : (l : List ℕ) (i : ℕ) (bs cs : List ℕ) → sets l i (bs ++ cs) ≡ sets (sets l i bs) (i + length bs) cs
    sets_append l i [] cs = rw add-zero
    sets_append l i (b ∷ bs) cs = rw (sets_append (set l i b) (suc i) bs cs, suc-add, add-suc)

-- a write past the first byte keeps it
write_at_cons : (b : ℕ) (out : List ℕ) (at : ℕ) (bs : List ℕ) → write_at (b ∷ out) (suc at) bs ≡ b ∷ write_at out at bs
unfolding write_at
write_at_cons b out at bs = rw (suc-add, leb-suc-suc) (go (leb (at + length bs) (length out)) _ _)
  where
    go : (t : Bool) (l m : List ℕ) → cond t (b ∷ l) (b ∷ m) ≡ b ∷ cond t l m
    go true l m = refl
    go false l m = refl

-- a write in the part from n on, seen from the whole
pub write_at_part : (out : List ℕ) (n at : ℕ) (bs : List ℕ) → n ≤ length out
    → take n out ++ write_at (drop n out) at bs ≡ write_at out (n + at) bs
write_at_part out zero at bs h = rw zero-add
write_at_part [] (suc n) at bs h = absurd (not-suc-le-zero h)
write_at_part (b ∷ out) (suc n) at bs h = rw (suc-add, write_at_cons, write_at_part out n at bs (le_of_suc-le-suc h))

-- no bytes change nothing
pub write_at_nothing : (out : List ℕ) (at : ℕ) → write_at out at [] ≡ out
unfolding write_at
write_at_nothing out at = go (leb (at + 0) (length out))
  where
    go : (t : Bool) → cond t (take at out ++ [] ++ drop (at + 0) out) out ≡ out
    go true = rw (append-nil, add-zero, take-append-drop)
    go false = refl

-- ---- by halves, and reading after a write. No proof cites these: they show that reading and writing, as they are
-- defined, go together

-- the bytes of a number are those of its low part, and then those of what is over it
pub bytes_of_add : (j k x : ℕ) → bytes_of (j + k) x ≡ bytes_of j x ++ bytes_of k (x / 256 ^ j)
unfolding bytes_of
bytes_of_add zero k x = rw (zero-add, div-one)
bytes_of_add (suc j) k x = rw (suc-add, bytes_of_add j k, div-div-eq-div-mul, ← pow-succ')

-- 256 ^ k, by which the laws divide, is not 0
positive : (k : ℕ) → 0 < 256 ^ k
positive zero = omega arith
positive (suc k) = let h : 0 < 256 ^ k = positive k in rw pow-succ' (omega arith)

-- the lowest j bytes are those of the remainder by 256 ^ j
pub bytes_of_low : (j x : ℕ) → bytes_of j (x % 256 ^ j) ≡ bytes_of j x
unfolding bytes_of
bytes_of_low zero x = refl
bytes_of_low (suc j) x = rw (pow-succ', mod-mod_of_dvd 256 x (dvd-mul_right 256 (256 ^ j)), upper, bytes_of_low j)
  where
    upper : x % (256 * 256 ^ j) / 256 ≡ x / 256 % 256 ^ j
    upper =
        let byte : x % 256 < 256 = omega arith in
        rw (mul_comm 256 (256 ^ j), mod-mul x (positive j) (positive 1), digits_div (x / 256 % 256 ^ j) byte)

-- a number of j + k bytes that fit is written by its low j bytes and then the k bytes over them
pub write_at_bytes_of_add : (j k x : ℕ) (out : List ℕ) (at : ℕ) → at + (j + k) ≤ length out
    → write_at (write_at out at (bytes_of j (x % 256 ^ j))) (at + j) (bytes_of k (x / 256 ^ j))
    ≡ write_at out at (bytes_of (j + k) x)
write_at_bytes_of_add j k x out at h =
    let low = bytes_of j x in
    let high = bytes_of k (x / 256 ^ j) in
    let e : length low ≡ j = bytes_of_length j x in
    let room : at + length low + length high ≤ length out = rw (e, bytes_of_length, add_assoc) h in
    rw (bytes_of_low, bytes_of_add)
    (ap (λ (n : ℕ). write_at (write_at out at low) (at + n) high) (sym e) ∙ write_at_append out at low high room)

-- a number that was written where it fits is read back
pub read_at_written : (k : ℕ) {x : ℕ} (out : List ℕ) (at : ℕ) → x < 256 ^ k → at + k ≤ length out
    → read_at k (write_at out at (bytes_of k x)) at ≡ x
unfolding read_at
read_at_written k {x} out at h room =
    let e : length (bytes_of k x) ≡ k = bytes_of_length k x in
    ap (λ (n : ℕ). little_endian (take n (drop at (write_at out at (bytes_of k x))))) (sym e)
    ∙ ap little_endian (write_at_between out at (bytes_of k x) (rw e room))
    ∙ little_endian_bytes_of k h

-- what is taken after a drop lies within the sum of the two
take_drop : (k n : ℕ) (l : List ℕ) → take k (drop n l) ≡ drop n (take (n + k) l)
take_drop k zero l = rw zero-add
take_drop k (suc n) [] = rw (suc-add, take-nil)
take_drop k (suc n) (b ∷ l) = rw suc-add (take_drop k n l)

-- what ends before the bytes written is read as before
pub read_at_before : (k : ℕ) (out : List ℕ) (at : ℕ) (bs : List ℕ) (n : ℕ)
    → n + k ≤ at → read_at k (write_at out at bs) n ≡ read_at k out n
unfolding read_at
read_at_before k out at bs n h = simp (take_drop k n, write_at_before out at bs (n + k) h)

-- and so is what starts after them
pub read_at_after : (k : ℕ) (out : List ℕ) (at : ℕ) (bs : List ℕ) (n : ℕ) → at + length bs ≤ n
    → read_at k (write_at out at bs) n ≡ read_at k out n
unfolding read_at
read_at_after k out at bs n h = rw (write_at_after out at bs n h)

-- and what lies within them is read off them
pub read_at_within : (k : ℕ) (out : List ℕ) (at : ℕ) (bs : List ℕ) (n : ℕ) → at + length bs ≤ length out
    → n + k ≤ length bs → read_at k (write_at out at bs) (at + n) ≡ read_at k bs n
unfolding read_at
read_at_within k out at bs n room h =
    rw (
      ← drop-drop n at (write_at out at bs),
      take_drop k n (drop at (write_at out at bs)),
      ← take-take (n + k) (length bs) _ h,
      write_at_between out at bs room,
      take_drop k n bs,
    )

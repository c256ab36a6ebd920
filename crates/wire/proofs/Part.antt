-- A part of lent bytes from a place on, lent to a call that writes, and put back. Assumes nothing.
use mathlib.Core.Path.{◌≡◌, ◌∙◌}
use mathlib.Core.List.{List, [], ◌++◌, append-nil}
use Prim.Native.Nat.{ℕ, ◌-◌, ◌≤◌}
use native.Mathlib.Nat.{add-zero}
use native.Mathlib.Omega.{arith}
use lib.ListN.{length, take, drop, length-drop, drop_of_length-le}
use lib.Seq.{take_all}
use Rattle.wire.specs.Bytes.{write_at}
use Rattle.wire.proofs.LittleEndian.{write_at_part}
use borrow.Rule.Slice.PartMut.{mid_of, post_of, put_mid, Post-is}

module _ (out : List ℕ) (at : ℕ) (within : at ≤ length out) where
  -- the part that is lent
  pub part_lent : mid_of at (length out - at) out ≡ drop at out
  part_lent = take_all (length out - at) (drop at out) (rw length-drop (omega arith))

  -- the bytes when it is back
  pub part_back : (part : List ℕ) → put_mid at (length out - at) out part ≡ take at out ++ part
  part_back part =
      let after : post_of at (length out - at) out ≡ [] =
      Post-is at (length out) out within ∙ drop_of_length-le out {i = length out} (omega arith) in
      rw (after, append-nil)

  -- so what is written at the start of the part is written at the place
  pub part_written : (bs : List ℕ)
      → put_mid at (length out - at) out (write_at (mid_of at (length out - at) out) 0 bs) ≡ write_at out at bs
  part_written bs = rw (part_lent, part_back, write_at_part out at 0 bs within, add-zero)

-- `wire::write` meets its contract: a copy into the part from `at` on is a write at that place. Assumes nothing.
use mathlib.Core.Path.{◌≡◌, sym}
use mathlib.Core.List.{List, append_assoc}
use Prim.Native.Nat.{ℕ, ◌+◌, ◌-◌, ◌≤◌}
use native.Mathlib.Omega.{arith}
use lib.ListN.{length}
use borrow.Rule.Slice.PartMut.{put_mid, Post-is}
use Rattle.wire.specs.Bytes.{write_at}
use Rattle.wire.proofs.LittleEndian.{write_at_short, write_at_fits}
use Rattle.wire.proofs.write.Goals as goal
use Rattle.wire.proofs.write.Goals.{else-s-out-via-then-s-out+else-at-out, else-s-out-via-else-s-out}

-- the bytes of that part put back as s
put_back : (out s : List ℕ) (at : ℕ) → at + length s ≤ length out
    → put_mid at (at + length s - at) out s ≡ write_at out at s
put_back out s at h = rw (Post-is at (at + length s) out (omega arith), write_at_fits out at s h, append_assoc)

pub returns-then-at-out : goal.returns-then-at-out
returns-then-at-out c =
    rw c.copy_from_slice.ensures.after (put_back c.args.out.now c.args.s.now c.args.at (omega arith))

pub returns-else-s-out : goal.returns-else-s-out
returns-else-s-out c =
    sym (
    write_at_short _ _ _
    (elim c.else-s-out.branch [
      | else-s-out-via-then-s-out+else-at-out w ↦ omega arith
      | else-s-out-via-else-s-out w ↦ omega arith
    ])
    )

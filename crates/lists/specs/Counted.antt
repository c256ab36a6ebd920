-- What the clauses of `src/lib.rt` cite: what a list says of itself. Assumes nothing.
use Rattle.std.specs.Prelude.{◌≡◌, ℕ, ◌<◌, ◌≤◌, List, length}
use Rattle.wire.specs.Bytes.{read_at}

-- A list has the four bytes of its count, and they say so many records; and it does not fill a room of so many bytes,
-- so that nothing of it can have been left out.
abbrev pub Counted : ℕ → List ℕ → ℕ → Type 0
Counted room list records = (4 ≤ length list) × (length list < room) × (records ≡ read_at 4 list 0)

-- Each public contract determines its answer, that of `body` the bytes that are handed back and the place that they
-- stand at: two parts that satisfy it are one. Assumes nothing.
use mathlib.Core.Path.{◌≡◌}
use mathlib.Core.List.{List}
use Prim.Native.Nat.{ℕ}
use denote.Ref.{Bor}
use Rattle.general.proofs.Determined.{Determined, equal_determined}
use Rattle.bodies.specs.Body.{Handed}
use Rattle.bodies.specs.Place.{place_of}

pub place_determined : (s : List ℕ) (i : ℕ) → Determined (λ r. r ≡ place_of s i)
place_determined s i = equal_determined

pub body_determined : (sheet : Bor (List ℕ)) (i : ℕ) (r q : Bor (List ℕ)) → Handed sheet i r → Handed sheet i q
    → (r.now ≡ q.now) × (r.ref_ptr.0 ≡ q.ref_ptr.0) × (r.ref_ptr.1 ≡ q.ref_ptr.1)
body_determined sheet i r q h k = (
  equal_determined r.now q.now h.bytes k.bytes,
  equal_determined r.ref_ptr.0 q.ref_ptr.0 h.block k.block,
  equal_determined r.ref_ptr.1 q.ref_ptr.1 h.place k.place,
)

-- Each public contract determines the lent bytes afterwards, as that of `wire::write` does, and that of `write_decimal`
-- the answer too: two results that satisfy it are one. Assumes nothing.
use mathlib.Core.Path.{◌≡◌, sym, ◌∙◌}
use mathlib.Core.List.{List}
use Prim.Native.Nat.{ℕ, ◌≤◌}
use lib.ListN.{length}
use Rattle.wire.specs.Bytes.{write_at}
use Rattle.text.specs.Digits.{hex_of, decimal_of}

module _ (before : List ℕ) (at : ℕ) (after other : List ℕ) where
  pub write_determined : (s : List ℕ) → after ≡ write_at before at s → other ≡ write_at before at s → after ≡ other
  write_determined s h k = h ∙ sym k

  pub write_hex_determined : (bits : ℕ) → after ≡ write_at before at (hex_of bits)
      → other ≡ write_at before at (hex_of bits) → after ≡ other
  write_hex_determined bits = write_determined (hex_of bits)

  -- what `write_decimal` ensures
  abbrev Decimal : ℕ → List ℕ → ℕ → Type 0
  Decimal n bytes r = (bytes ≡ write_at before at (decimal_of n)) × (r ≡ length (decimal_of n)) × (r ≤ 20)

  pub write_decimal_determined : (n r q : ℕ) → Decimal n after r → Decimal n other q → (after ≡ other) × (r ≡ q)
  write_decimal_determined n r q h k = (write_determined (decimal_of n) h.0 k.0, h.1 ∙ sym k.1)

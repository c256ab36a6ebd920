-- Which of refusals 5 and 6 the kind and the rotor byte of an entry get. Assumes nothing.
use mathlib.Core.Path.{◌≡◌, refl}
use Prim.Native.Nat.{ℕ, ◌<◌}
use native.Mathlib.Omega.{arith}
use borrow.Author.Tests.{lt-ltb, le-ltb, ne_eqb}
use Rattle.refusals.specs.Numbers.{accepted, bad_kind, bad_rotor}
use Rattle.refusals.specs.Told.{first}
use Rattle.entries.specs.Choice.{choice_number}

module _ (kind rotor : ℕ) where
  -- "entry's kind over 4"
  pub kind_refused : 4 < kind → choice_number kind rotor ≡ bad_kind
  unfolding choice_number first
  kind_refused h = rw (lt-ltb 4 kind)

  -- "rotor byte not 0, kind not 4"
  pub rotor_refused : kind < 4 → (rotor ≡ 0 → ⊥) → choice_number kind rotor ≡ bad_rotor
  unfolding choice_number first
  rotor_refused h d = rw (le-ltb 4 kind (omega arith), ne_eqb kind 4 (λ e. omega arith), ne_eqb rotor 0 d)

-- neither of them, of a kind that names no rotor
pub rotor_passed : (kind : ℕ) → kind < 4 → choice_number kind 0 ≡ accepted
unfolding choice_number first
rotor_passed kind h = rw (le-ltb 4 kind (omega arith), ne_eqb kind 4 (λ e. omega arith))

-- nor of rotor-out, whatever rotor byte it has
pub none_refused : (rotor : ℕ) → choice_number 4 rotor ≡ accepted
unfolding choice_number first
none_refused rotor = refl

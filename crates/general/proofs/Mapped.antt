-- What `map` of an array gives, where each call of the closure gives h of its element and leaves the closure as it was:
-- the list that h makes of the elements. Assumes nothing.
use mathlib.Core.Path.{◌≡◌, ap₂, subst}
use mathlib.Core.List.{List, ◌∷◌, map}
use Prim.Native.Nat.{ℕ, zero, suc, ◌+◌, ◌≤◌, ◌<◌}
use native.Mathlib.Numerals.{add-one}
use native.Mathlib.Omega.{arith}
use lib.ListN.{length, get_or, drop, drop_of_length-le}
use lib.Seq.{drop-cons}
use denote.Param.Members.{Mut}
use Rattle.std.specs.Array.{MapsFrom, IsMapOf}
use Rattle.std.specs.Fn.{Called}
use Rattle.general.proofs.Lists.{map_at}

module _ {F A B : Type 0} (g : Mut F (A × Unit {0}) B) (f : F) (h : A → B) where
  abbrev Computes : Type 0
  Computes = (x : A) (y : B) (q : F) → Called g f (x, tt) y q → (q ≡ f) × (y ≡ h x)

  mapped_from : Computes → (n i : ℕ) (xs : List A) (ys : List B) → length xs ≡ i + n → length ys ≡ i + n
      → MapsFrom g f xs ys i n → drop i ys ≡ map h (drop i xs)
  mapped_from k zero i xs ys hx hy m =
      let nx : length xs ≤ i = omega arith in
      let ny : length ys ≤ i = omega arith in
      rw (drop_of_length-le xs nx, drop_of_length-le ys ny)
  mapped_from k (suc n) i xs ys hx hy (q, x, y, ex, ey, call, rest) =
      let nx : i < length xs = omega arith in
      let ny : i < length ys = omega arith in
      let gave = k x y q call in
      let more = subst (λ (p : F). MapsFrom g p xs ys (i + 1) n) gave.0 rest in
      rw (drop-cons xs i x nx, drop-cons ys i y ny, ex.0, ey.0)
      (ap₂ ◌∷◌ gave.1 (rw add-one at (mapped_from k n (i + 1) xs ys (omega arith) (omega arith) more)))

  pub mapped : (n : ℕ) (xs : List A) (ys : List B) → length xs ≡ n → IsMapOf g f xs ys n → Computes → ys ≡ map h xs
  mapped n xs ys hx m k =
      let long : length ys ≡ n = m.long in
      mapped_from k n 0 xs ys (omega arith) (omega arith) m.each

  -- an array of three, number by number
  pub three_mapped : (xs : List A) (ys : List B) (d : A) (e : B) → length xs ≡ 3 → IsMapOf g f xs ys 3 → Computes
      → (get_or ys 0 e ≡ h (get_or xs 0 d)) × (get_or ys 1 e ≡ h (get_or xs 1 d)) × (get_or ys 2 e ≡ h (get_or xs 2 d))
  three_mapped xs ys d e hx m k =
      let is = mapped 3 xs ys hx m k in
      let first : 0 < length xs = omega (arith, hx) in
      let second : 1 < length xs = omega (arith, hx) in
      let third : 2 < length xs = omega (arith, hx) in
      rw is (map_at h d e xs 0 first, map_at h d e xs 1 second, map_at h d e xs 2 third)

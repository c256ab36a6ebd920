-- What the kit's comparisons answer, against the tables of specs/Comparison.antt: four of its tests settle the six
-- answers, which are found here for every two operands but two finite numbers, of which it is said that the order of
-- two natural numbers gives them; and three of the tests settle the relation. Assumes nothing.
use mathlib.Core.Path.{◌≡◌, refl, sym, ◌∙◌}
use mathlib.Core.Bool.{Bool, true, false, not, ◌||◌}
use Prim.Native.Nat.{ℕ, ◌<◌}
use native.Mathlib.Omega.{arith}
use borrow.Author.Tests.{lt-ltb, le-ltb, eq-eqb, ne_eqb}
use lib.Dec.{T, ltb, eqb}
use lib.IntN.{ℤ}
use lib.Ieee.{Float, nan, inf, fin, is_nan, eq, ne, lt, le}
use lib.Ieee.Scale.{finite}
use Rattle.binary32.specs.Comparison.{Relation, less, equal, greater, unordered}
use Rattle.binary32.specs.Comparison.{equal_holds, not_equal_holds, less_holds}
use Rattle.binary32.specs.Comparison.{less_equal_holds, greater_holds, greater_equal_holds}

-- the kit's comparisons of x and y are the tables' answers for the relation r
pub record Answers (x y : Float) (r : Relation) : Type 0 where
  pub equal : eq x y ≡ equal_holds r
  pub not_equal : ne x y ≡ not_equal_holds r
  pub less : lt x y ≡ less_holds r
  pub less_equal : le x y ≡ less_equal_holds r
  pub greater : lt y x ≡ greater_holds r
  pub greater_equal : le y x ≡ greater_equal_holds r

-- ---- the tables against each other: "not equal" is what "equal" is not, and "or equal" adds it to the other two

record Tables (r : Relation) : Type 0 where
  not_equal : not (equal_holds r) ≡ not_equal_holds r
  less_equal : less_holds r || equal_holds r ≡ less_equal_holds r
  greater_equal : greater_holds r || equal_holds r ≡ greater_equal_holds r

tables : (r : Relation) → Tables r
unfolding equal_holds not_equal_holds less_holds less_equal_holds greater_holds greater_equal_holds
tables less = record { not_equal = refl; less_equal = refl; greater_equal = refl }
tables equal = record { not_equal = refl; less_equal = refl; greater_equal = refl }
tables greater = record { not_equal = refl; less_equal = refl; greater_equal = refl }
tables unordered = record { not_equal = refl; less_equal = refl; greater_equal = refl }

-- four tests give all six answers
pub answers_of : {x y : Float} (r : Relation) → eq x y ≡ equal_holds r → eq y x ≡ equal_holds r → lt x y ≡ less_holds r
    → lt y x ≡ greater_holds r → Answers x y r
unfolding ne le
answers_of r e e' l g = record {
  equal = e;
  not_equal = rw e (tables r).not_equal;
  less = l;
  less_equal = rw (e, l) (tables r).less_equal;
  greater = g;
  greater_equal = rw (e', g) (tables r).greater_equal;
}

-- where x is less than y, y is greater than x: of "less or equal" turned round, which fails, no part holds
pub turned : {x y : Float} → Answers x y less → Answers y x greater
unfolding le equal_holds less_holds greater_holds greater_equal_holds
turned {x} {y} h = answers_of greater (second (lt y x) (eq y x) h.greater_equal) h.equal h.greater h.less
  where
    second : (p q : Bool) → p || q ≡ false → q ≡ false
    second false q e = e
    second true q e = cc

-- ---- two numbers whose tests are those of the natural numbers a and b

pub record Stands (x y : Float) (a b : ℕ) : Type 0 where
  pub equal : eq x y ≡ eqb a b
  pub equal_back : eq y x ≡ eqb b a
  pub less : lt x y ≡ ltb a b
  pub greater : lt y x ≡ ltb b a

module _ {x y : Float} {a b : ℕ} (h : Stands x y a b) where
  -- where a is less, the answers are those of "less"
  pub stands_less : a < b → Answers x y less
  unfolding equal_holds less_holds greater_holds
  stands_less l =
      answers_of less (h.equal ∙ ne_eqb a b (λ e. omega arith)) (h.equal_back ∙ ne_eqb b a (λ e. omega arith))
      (h.less ∙ lt-ltb a b l) (h.greater ∙ le-ltb b a (omega arith))

  -- where they are equal, those of "equal"
  pub stands_equal : a ≡ b → Answers x y equal
  unfolding equal_holds less_holds greater_holds
  stands_equal e =
      answers_of equal (h.equal ∙ eq-eqb a b e) (h.equal_back ∙ eq-eqb b a (sym e))
      (h.less ∙ le-ltb a b (omega arith)) (h.greater ∙ le-ltb b a (omega arith))

-- and where a is greater, those of "greater"
pub stands_greater : {x y : Float} {a b : ℕ} → Stands x y a b → b < a → Answers x y greater
stands_greater h l =
    turned (stands_less (record {
      equal = h.equal_back;
      equal_back = h.equal;
      less = h.greater;
      greater = h.less;
    }) l)

-- ---- infinities

-- an infinity is equal to itself
pub same_infinity : (s : Bool) → Answers (inf s) (inf s) equal
unfolding eq lt equal_holds less_holds greater_holds
same_infinity true = answers_of equal refl refl refl refl
same_infinity false = answers_of equal refl refl refl refl

-- -∞ is less than +∞, and +∞ greater than -∞
pub infinities_less : Answers (inf true) (inf false) less
unfolding eq lt equal_holds less_holds greater_holds
infinities_less = answers_of less refl refl refl refl

pub infinities_greater : Answers (inf false) (inf true) greater
infinities_greater = turned infinities_less

-- what holds of every number that is written out holds of every finite one
by_written : (P : Float → Type 0) → ((s : Bool) (m : ℕ) (e : ℤ) → P (fin s m e)) → (x : Float) → T (finite x) → P x
by_written P h nan t = absurd t
by_written P h (inf s) t = absurd t
by_written P h (fin s m e) t = h s m e

-- -∞ is less than a finite number, which is less than +∞
pub minus_infinity_less : {x : Float} → T (finite x) → Answers (inf true) x less
unfolding eq lt equal_holds less_holds greater_holds
minus_infinity_less {x} =
    by_written (λ x. Answers (inf true) x less) (λ s m e. answers_of less refl refl refl refl) x

pub less_plus_infinity : {x : Float} → T (finite x) → Answers x (inf false) less
unfolding eq lt equal_holds less_holds greater_holds
less_plus_infinity {x} =
    by_written (λ x. Answers x (inf false) less) (λ s m e. answers_of less refl refl refl refl) x

-- +∞ is greater than a finite number, which is greater than -∞
pub plus_infinity_greater : {x : Float} → T (finite x) → Answers (inf false) x greater
plus_infinity_greater t = turned (less_plus_infinity t)

pub greater_minus_infinity : {x : Float} → T (finite x) → Answers x (inf true) greater
greater_minus_infinity t = turned (minus_infinity_less t)

-- ---- NaN

-- a NaN is unordered with everything
pub nan_unordered : (x y : Float) → T (is_nan x || is_nan y) → Answers x y unordered
unfolding eq lt is_nan equal_holds less_holds greater_holds
nan_unordered nan nan h = answers_of unordered refl refl refl refl
nan_unordered nan (inf t) h = answers_of unordered refl refl refl refl
nan_unordered nan (fin t n d) h = answers_of unordered refl refl refl refl
nan_unordered (inf s) nan h = answers_of unordered refl refl refl refl
nan_unordered (inf s) (inf t) h = absurd h
nan_unordered (inf s) (fin t n d) h = absurd h
nan_unordered (fin s m e) nan h = answers_of unordered refl refl refl refl
nan_unordered (fin s m e) (inf t) h = absurd h
nan_unordered (fin s m e) (fin t n d) h = absurd h

-- ---- three tests give the relation

-- by whether x is less, equal, greater
relation_of : Bool → Bool → Bool → Relation
relation_of true e g = less
relation_of false true g = equal
relation_of false false true = greater
relation_of false false false = unordered

table_relation : (r : Relation) → relation_of (less_holds r) (equal_holds r) (greater_holds r) ≡ r
unfolding relation_of equal_holds less_holds greater_holds
table_relation less = refl
table_relation equal = refl
table_relation greater = refl
table_relation unordered = refl

told : {x y : Float} {r : Relation} → Answers x y r → relation_of (lt x y) (eq x y) (lt y x) ≡ r
told {r} h = rw (h.less, h.equal, h.greater) (table_relation r)

-- two operands have the answers of one relation only
pub one_relation : {x y : Float} {r q : Relation} → Answers x y r → Answers x y q → r ≡ q
one_relation a b = sym (told a) ∙ told b

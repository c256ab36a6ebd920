-- For every two operands that a format holds, the rows of specs/Comparison.antt allow exactly one relation, and the
-- kit's comparisons are the answers that the tables give for it: `eq`, `ne`, `lt` and `le`, and with the operands
-- exchanged `lt` and `le` again, which is what Rust's `>` and `>=` are. In either format. Assumes nothing.
use mathlib.Core.Path.{◌≡◌, refl, sym, ◌∙◌, subst}
use mathlib.Core.Logic.{inl, inr}
use mathlib.Core.Bool.{Bool, true, false}
use Prim.Native.Nat.{ℕ, ◌+◌, ◌<◌}
use native.Mathlib.Nat.{eq-or-lt_of_le}
use native.Mathlib.Decide.{dec_le}
use native.Mathlib.Omega.{arith}
use lib.Dec.{T, lt→ltb, ltb→lt}
use lib.IntN.{ℤ}
use lib.Signed.{◌<ℤ◌}
use lib.Ieee.{Float, inf, Format, fits}
use Rattle.binary32.specs.Whole.{over, under, whole_of}
use Rattle.binary32.specs.Comparison.{Relation, less, equal, greater, Compares}
use Rattle.binary32.proofs.Magnitude.{Finite, is_finite, finite_number}
use Rattle.binary32.proofs.Order.{lt_whole, eq_whole}
use Rattle.binary32.proofs.Integers.{Difference, whole_difference, lt_test, same_integer, same_difference}
use Rattle.binary32.proofs.OneResult.{by_operands}
use Rattle.binary32.proofs.Answers.{Answers, one_relation, Stands, stands_less, stands_equal, stands_greater}
use Rattle.binary32.proofs.Answers.{same_infinity, infinities_less, infinities_greater, nan_unordered}
use Rattle.binary32.proofs.Answers.{minus_infinity_less, less_plus_infinity}
use Rattle.binary32.proofs.Answers.{plus_infinity_greater, greater_minus_infinity}

-- ---- two finite numbers

less_of : {z w : ℤ} {p n q m : ℕ} → Difference z p n → Difference w q m → p + m < q + n → z <ℤ w
less_of dz dw h = record { lt = subst T (lt_test dz dw) (lt→ltb _ _ h) }

less_to : {z w : ℤ} {p n q m : ℕ} → Difference z p n → Difference w q m → z <ℤ w → p + m < q + n
less_to dz dw h = ltb→lt _ _ (subst T (sym (lt_test dz dw)) h.lt)

equal_to : {z w : ℤ} {p n q m : ℕ} → Difference z p n → Difference w q m → z ≡ w → p + m ≡ q + n
equal_to {p} {n} dz dw e = same_difference (subst (λ (z : ℤ). Difference z p n) e dz) dw

module _ {f : Format} {x y : Float} (hx : Finite f x) (hy : Finite f y) where
  -- the kit's tests are those of the whole numbers, with what is under zero moved to the other side
  stands : Stands x y (over f x + under f y) (over f y + under f x)
  stands =
      let nx = finite_number hx in
      let ny = finite_number hy in
      record {
        equal = eq_whole nx ny;
        equal_back = eq_whole ny nx;
        less = lt_whole nx ny;
        greater = lt_whole ny nx;
      }

  finite_less : whole_of f x <ℤ whole_of f y → Answers x y less
  finite_less h = stands_less stands (less_to (whole_difference f x) (whole_difference f y) h)

  finite_equal : whole_of f x ≡ whole_of f y → Answers x y equal
  finite_equal e = stands_equal stands (equal_to (whole_difference f x) (whole_difference f y) e)

  finite_greater : whole_of f y <ℤ whole_of f x → Answers x y greater
  finite_greater h = stands_greater stands (less_to (whole_difference f y) (whole_difference f x) h)

-- ---- every two operands have a relation for which the tables answer, and the rows allow no other

record Settled (f : Format) (x y : Float) : Type 0 where
  relation : Relation
  answers : Answers x y relation
  only : (r : Relation) → Compares f x y r → r ≡ relation

settle : {f : Format} {x y : Float} {r : Relation} → Answers x y r → ((q : Relation) → Compares f x y q → q ≡ r)
    → Settled f x y
settle {r} a o = record { relation = r; answers = a; only = o }

finite_settled : {f : Format} {x y : Float} → Finite f x → Finite f y → Settled f x y
finite_settled {f} {x} {y} hx hy =
    let dx = whole_difference f x in
    let dy = whole_difference f y in
    elim (dec_le (over f y + under f x) (over f x + under f y)) [
      | no n ↦
          let l : whole_of f x <ℤ whole_of f y = less_of dx dy (omega arith) in
          settle (finite_less hx hy l) (λ r c. c.finite_less hx.finite hy.finite l)
      | yes h ↦ elim (eq-or-lt_of_le h) [
        | inl e ↦
            let same : whole_of f x ≡ whole_of f y = same_integer dx dy (sym e) in
            settle (finite_equal hx hy same) (λ r c. c.finite_equal hx.finite hy.finite same)
        | inr g ↦
            let l : whole_of f y <ℤ whole_of f x = less_of dy dx g in
            settle (finite_greater hx hy l) (λ r c. c.finite_greater hx.finite hy.finite l)
      ]
    ]

infinite_settled : {f : Format} (s t : Bool) → Settled f (inf s) (inf t)
infinite_settled true true = settle (same_infinity true) (λ r c. c.infinite_equal true refl refl)
infinite_settled false false = settle (same_infinity false) (λ r c. c.infinite_equal false refl refl)
infinite_settled true false = settle infinities_less (λ r c. c.minus_then_plus refl refl)
infinite_settled false true = settle infinities_greater (λ r c. c.plus_then_minus refl refl)

infinite_first : {f : Format} {y : Float} (s : Bool) → Finite f y → Settled f (inf s) y
infinite_first true h = settle (minus_infinity_less h.finite) (λ r c. c.minus_infinity_first refl h.finite)
infinite_first false h = settle (plus_infinity_greater h.finite) (λ r c. c.plus_infinity_first refl h.finite)

infinite_second : {f : Format} {x : Float} (t : Bool) → Finite f x → Settled f x (inf t)
infinite_second true h = settle (greater_minus_infinity h.finite) (λ r c. c.minus_infinity_second h.finite refl)
infinite_second false h = settle (less_plus_infinity h.finite) (λ r c. c.plus_infinity_second h.finite refl)

settled : {f : Format} {x y : Float} → T (fits f x) → T (fits f y) → Settled f x y
settled {f} {x} {y} =
    by_operands (λ x y. Settled f x y)
    (λ h. settle (nan_unordered x y h) (λ r c. c.not_a_number h))
    infinite_settled
    (λ s t n d h. infinite_first s h)
    (λ s m e t h. infinite_second t h)
    (λ s m e t n d p q. finite_settled (is_finite p tt) (is_finite q tt))

-- ---- a relation for which the tables answer meets the rows

meets : {f : Format} {x y : Float} {r : Relation} → T (fits f x) → T (fits f y) → Answers x y r → Compares f x y r
meets {x} {y} hx hy h = record {
  finite_less = λ p q l. one_relation h (finite_less (is_finite hx p) (is_finite hy q) l);
  finite_equal = λ p q e. one_relation h (finite_equal (is_finite hx p) (is_finite hy q) e);
  finite_greater = λ p q l. one_relation h (finite_greater (is_finite hx p) (is_finite hy q) l);
  infinite_equal = λ s d e. one_relation h (rw (d, e) (same_infinity s));
  minus_infinity_first = λ d q. one_relation h (rw d (minus_infinity_less q));
  plus_infinity_second = λ p e. one_relation h (rw e (less_plus_infinity p));
  minus_then_plus = λ d e. one_relation h (rw (d, e) infinities_less);
  plus_infinity_first = λ d q. one_relation h (rw d (plus_infinity_greater q));
  minus_infinity_second = λ p e. one_relation h (rw e (greater_minus_infinity p));
  plus_then_minus = λ d e. one_relation h (rw (d, e) infinities_greater);
  not_a_number = λ n. one_relation h (nan_unordered x y n);
}

-- ---- the laws

module _ {f : Format} {x y : Float} (hx : T (fits f x)) (hy : T (fits f y)) where
  -- there is a relation that the rows allow
  pub comparison : (r : Relation) × Compares f x y r
  comparison = ((settled hx hy).relation, meets hx hy (settled hx hy).answers)

  -- and only one
  pub comparison_determined : {r q : Relation} → Compares f x y r → Compares f x y q → r ≡ q
  comparison_determined {r} {q} a b = (settled hx hy).only r a ∙ sym ((settled hx hy).only q b)

  -- for which the kit's comparisons are the tables' answers
  pub comparison_answers : {r : Relation} → Compares f x y r → Answers x y r
  comparison_answers {r} c = subst (Answers x y) (sym ((settled hx hy).only r c)) (settled hx hy).answers

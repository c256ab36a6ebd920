-- What it is for a contract to determine an answer: two results that satisfy it are one, by bits. A contract that says
-- what the answer equals does. Assumes nothing.
use mathlib.Core.Path.{◌≡◌, sym, ◌∙◌}

abbrev pub Determined : {A : Type 0} → (A → Type 0) → Type 0
Determined {A} P = (r q : A) → P r → P q → r ≡ q

pub equal_determined : {A : Type 0} {x : A} → Determined (λ (r : A). r ≡ x)
equal_determined r q h k = h ∙ sym k

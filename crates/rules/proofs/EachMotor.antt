-- What holds of each two that two maps make of one list: a rotor's delta and its motor, say. Assumes nothing.
use mathlib.Core.List.{List, [], ◌∷◌, map}
use lib.Ieee.{Float}
use Rattle.general.specs.Each.{Each}
use Rattle.fit.specs.Fit.{EachMotor}

pub each_motor : {A : Type 0} (P : A → Type 0) (R : Float → Float → Type 0) (f g : A → Float)
    → ((a : A) → P a → R (f a) (g a)) → (l : List A) → Each P l → EachMotor R (map f l) (map g l)
each_motor P R f g k [] h = tt
each_motor P R f g k (a ∷ l) h = (k a h.0, each_motor P R f g k l h.1)

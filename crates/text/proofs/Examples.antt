-- The definitions of `specs/Digits.antt` at words of document 01's lines, so that they are seen to say what is printed.
-- Assumes nothing.
use mathlib.Core.Path.{◌≡◌, refl}
use mathlib.Core.List.{[], ◌∷◌}
use Rattle.text.specs.Digits.{hex_of, decimal_within, decimal_of}

-- the bits of 0.25 are `3e800000`
quarter : hex_of 1048576000 ≡ 51 ∷ 101 ∷ 56 ∷ 48 ∷ 48 ∷ 48 ∷ 48 ∷ 48 ∷ []
unfolding hex_of
quarter = refl

-- entry 0 is `0`
entry_0 : decimal_of 0 ≡ 48 ∷ []
unfolding decimal_within decimal_of
entry_0 = refl

-- refusal 10 is `10`
refusal_10 : decimal_of 10 ≡ 49 ∷ 48 ∷ []
unfolding decimal_within decimal_of
refusal_10 = refl

-- Laws on `cond`. Assumes nothing.
use mathlib.Core.Path.{◌≡◌, refl, sym, ap}
use mathlib.Core.Bool.{Bool, true, false, ◌&&◌, cond}

-- two choices that end alike are one: what is chosen where both tests hold
pub both : {A : Type 0} (p q : Bool) (x y : A) → cond p (cond q x y) y ≡ cond (p && q) x y
both true q x y = refl
both false q x y = refl

-- a choice has a property that both of its sides have, each where it is taken
pub by_test : {A : Type 0} (P : A → Type 0) (b : Bool) {x y : A} → (b ≡ true → P x) → (b ≡ false → P y) → P (cond b x y)
by_test P true f g = f refl
by_test P false f g = g refl

-- the side that a choice takes
pub taken : {A : Type 0} {b : Bool} (x y : A) → b ≡ true → x ≡ cond b x y
taken x y e = ap (λ (b : Bool). cond b x y) (sym e)

pub left : {A : Type 0} {b : Bool} (x y : A) → b ≡ false → y ≡ cond b x y
left x y e = ap (λ (b : Bool). cond b x y) (sym e)

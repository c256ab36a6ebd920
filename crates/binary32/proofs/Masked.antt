-- A bit pattern without its sign's bit is that of the absolute value: the rest of the pattern of x is read as x with
-- its sign made positive and nothing else changed, for every x that the format holds, NaN and the infinities too. In
-- either format. Assumes nothing.
use mathlib.Core.Path.{◌≡◌, refl, sym, ap, ◌∙◌}
use mathlib.Core.Bool.{Bool, true, false}
use Prim.Native.Nat.{ℕ, ◌+◌, ◌-◌, ◌*◌, ◌%◌, ◌^◌, ◌<◌}
use native.Mathlib.Nat.{add_assoc, zero-add, add-mod_left, mod-eq_of_lt}
use native.Mathlib.Omega.{arith}
use lib.Dec.{T}
use lib.Bits.{bit_and, and_mask}
use lib.Ieee.{Float, nan, inf, fin, Format, binary32, binary64, fits, neg, top, to_bits, of_bits}
use lib.Ieee.Bits.{of_bits-to_bits, to_bits-lt}
use lib.Ieee.Fits.{neg-fits, inf-fits}
use Rattle.binary32.specs.Arithmetic.{absolute}

-- the absolute value of what a format holds is held
pub absolute_fits : (f : Format) (x : Float) → T (fits f x) → T (fits f (absolute x))
unfolding absolute neg
absolute_fits f nan h = h
absolute_fits f (inf true) h = neg-fits f (inf true) h
absolute_fits f (inf false) h = h
absolute_fits f (fin true m e) h = neg-fits f (fin true m e) h
absolute_fits f (fin false m e) h = h

-- ---- the pattern without its sign

-- patterns that differ in the sign's bit c alone, r being the rest: one with that bit is under 2 * c, so r is under c
cleared : (pattern : Bool → ℕ) (c r : ℕ) → pattern true ≡ c + r → pattern false ≡ r → pattern true < 2 * c
    → (s : Bool) → pattern s % c ≡ pattern false
cleared pattern c r set clear under true =
    ap (λ (n : ℕ). n % c) set ∙ add-mod_left c r ∙ mod-eq_of_lt (omega arith) ∙ sym clear
cleared pattern c r set clear under false = mod-eq_of_lt (omega arith)

-- the bits of x under its sign's bit are the pattern of the absolute value
pub without_sign : (f : Format) (x : Float) → T (fits f x) → to_bits f x % top f ≡ to_bits f (absolute x)
unfolding absolute neg to_bits
without_sign binary32 nan h = refl
without_sign binary64 nan h = refl
without_sign f (inf s) h =
    cleared (λ s. to_bits f (inf s)) (top f) _ refl (zero-add _) (to_bits-lt f (inf true) (inf-fits f true)) s
without_sign f (fin s m e) h =
    cleared (λ s. to_bits f (fin s m e)) (top f) _ (add_assoc _ _ _) (add_assoc _ _ _ ∙ zero-add _)
    (to_bits-lt f (fin true m e) (neg-fits f (fin false m e) (absolute_fits f (fin s m e) h))) s

-- ---- masked

-- the mask of all bits under the sign's is a power of two less one
below_sign : (f : Format) → (k : ℕ) × (top f ≡ 2 ^ k)
below_sign binary32 = (31, refl)
below_sign binary64 = (63, refl)

-- the bits of x under its sign's bit are read as the absolute value of x
pub masked_absolute : (f : Format) (x : Float) → T (fits f x) → of_bits f (bit_and (to_bits f x) (top f - 1))
    ≡ absolute x
masked_absolute f x h =
    let k = (below_sign f).0 in
    let e = (below_sign f).1 in
    ap (λ (n : ℕ). of_bits f (bit_and (to_bits f x) (n - 1))) e
    ∙ ap (of_bits f) (and_mask (to_bits f x) k ∙ ap (λ (n : ℕ). to_bits f x % n) (sym e) ∙ without_sign f x h)
    ∙ of_bits-to_bits f (absolute x) (absolute_fits f x h)

-- at binary32, by the mask that the code has
pub masked_absolute_binary32 : (x : Float) → T (fits binary32 x)
    → of_bits binary32 (bit_and (to_bits binary32 x) 0x7fff_ffff) ≡ absolute x
masked_absolute_binary32 x h = masked_absolute binary32 x h

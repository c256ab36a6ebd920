-- Each public contract determines its answer: two results that satisfy it are one. A contract of this crate either says
-- what the answer equals, or is `Chosen`, whose number and cases tell the answers apart. Assumes nothing.
use mathlib.Core.Path.{◌≡◌, refl, sym, ap, ◌∙◌}
use mathlib.Core.Bool.{cond}
use mathlib.Core.List.{List}
use Prim.Native.Nat.{ℕ}
use lib.Dec.{eqb}
use borrow.Author.Tests.{eqb-false}
use Rattle.refusals.specs.Numbers.{accepted, too_short, bad_version, too_many, bad_length}
use Rattle.refusals.specs.Numbers.{bad_kind, bad_rotor, bad_offset, bad_end}
use Rattle.general.proofs.Determined.{Determined, equal_determined}
use Rattle.entries.specs.declared.choice.Case.{Case}
use Rattle.std.specs.declared.result.Result.{Result}
use Rattle.std.specs.declared.result.Result.TheVariants.{Ok, Err}
use Rattle.entries.specs.declared.refusal.Refusal.{Refusal}
use Rattle.entries.specs.declared.refusal.Refusal.TheVariants.{TooShort, BadVersion, TooMany, BadLength, BadKind}
use Rattle.entries.specs.declared.refusal.Refusal.TheVariants.{BadRotor, BadOffset, BadEnd, ShortOutput}
use Rattle.entries.specs.Layout.{version_of, count_of, length_field, entry_at, kind_of}
use Rattle.entries.specs.Layout.{rotor_of, offset_of, body_size, number_in}
use Rattle.entries.specs.Refusal.{refusal_number}
use Rattle.entries.specs.Choice.{choice_told, cases_in, ChosenBy}
use Rattle.entries.specs.Entry.{command_with}
use Rattle.entries.proofs.Chosen.{never_accepted}

-- ---- the numbers tell the refusals apart

-- the refusal of a number
named : ℕ → Refusal
named n =
    cond (eqb n too_short) TooShort
    (cond (eqb n bad_version) BadVersion
    (cond (eqb n too_many) TooMany
    (cond (eqb n bad_length) BadLength
    (cond (eqb n bad_kind) BadKind
    (cond (eqb n bad_rotor) BadRotor (cond (eqb n bad_offset) BadOffset (cond (eqb n bad_end) BadEnd ShortOutput)))))))

named_number : (r : Refusal) → named (refusal_number r) ≡ r
unfolding named
named_number TooShort = refl
named_number BadVersion = refl
named_number TooMany = refl
named_number BadLength = refl
named_number BadKind = refl
named_number BadRotor = refl
named_number BadOffset = refl
named_number BadEnd = refl
named_number ShortOutput = refl

pub number_tells : (r q : Refusal) → refusal_number r ≡ refusal_number q → r ≡ q
number_tells r q e = sym (named_number r) ∙ ap named e ∙ named_number q

-- ---- so do the number and the case of a choice

choice_tells : (c d : Result Case Refusal) → choice_told c ≡ choice_told d → cases_in c ≡ cases_in d → c ≡ d
choice_tells (Ok a) (Ok b) n l = let same : a ≡ b = cc in ap Ok same
choice_tells (Err r) (Err q) n l = ap Err (number_tells r q n)
choice_tells (Ok a) (Err q) n l = absurd (eqb-false (refusal_number q) accepted (never_accepted q) (sym n))
choice_tells (Err r) (Ok b) n l = absurd (eqb-false (refusal_number r) accepted (never_accepted r) n)

-- ---- the public functions

module _ (s : List ℕ) (i j kind rotor : ℕ) (case : Case) (r : Refusal) where
  pub version_determined : Determined (λ n. n ≡ version_of s)
  version_determined = equal_determined

  pub count_determined : Determined (λ n. n ≡ count_of s)
  count_determined = equal_determined

  pub length_field_determined : Determined (λ n. n ≡ length_field s)
  length_field_determined = equal_determined

  pub entry_at_determined : Determined (λ n. n ≡ entry_at i)
  entry_at_determined = equal_determined

  pub kind_determined : Determined (λ n. n ≡ kind_of s i)
  kind_determined = equal_determined

  pub rotor_determined : Determined (λ n. n ≡ rotor_of s i)
  rotor_determined = equal_determined

  pub offset_determined : Determined (λ n. n ≡ offset_of s i)
  offset_determined = equal_determined

  pub body_size_determined : Determined (λ n. n ≡ body_size kind)
  body_size_determined = equal_determined

  pub float_determined : Determined (λ x. x ≡ number_in s i j)
  float_determined = equal_determined

  pub from_determined : Determined (λ n. n ≡ refusal_number r)
  from_determined = equal_determined

  pub choose_determined : Determined (ChosenBy kind rotor)
  choose_determined c d h k = choice_tells c d (h.told ∙ sym k.told) (h.cases ∙ sym k.cases)

  pub command_determined : Determined (λ c. c ≡ command_with s i case)
  command_determined = equal_determined

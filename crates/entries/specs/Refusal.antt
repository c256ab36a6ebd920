-- The paper's number for each case of `Refusal` (the table in document 01, 'The command sheet (ours)'). Definitions
-- only.
use Rattle.std.specs.Prelude.{ℕ}
use Rattle.refusals.specs.Numbers.{too_short, bad_version, too_many, bad_length, bad_kind}
use Rattle.refusals.specs.Numbers.{bad_rotor, bad_offset, bad_end, short_output}
use Rattle.entries.specs.declared.refusal.Refusal.{Refusal}
use Rattle.entries.specs.declared.refusal.Refusal.TheVariants.{TooShort, BadVersion, TooMany, BadLength, BadKind}
use Rattle.entries.specs.declared.refusal.Refusal.TheVariants.{BadRotor, BadOffset, BadEnd, ShortOutput}

abbrev pub refusal_number : Refusal → ℕ
refusal_number TooShort = too_short
refusal_number BadVersion = bad_version
refusal_number TooMany = too_many
refusal_number BadLength = bad_length
refusal_number BadKind = bad_kind
refusal_number BadRotor = bad_rotor
refusal_number BadOffset = bad_offset
refusal_number BadEnd = bad_end
refusal_number ShortOutput = short_output

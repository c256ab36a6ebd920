-- `entries::choice::choose` meets its contract: in each arm the kind and the rotor byte are known well enough for the
-- tests to compute. Assumes nothing.
use native.Mathlib.Omega.{arith}
use borrow.Author.Tests.{lt-ltb, le-ltb}
use Rattle.entries.specs.declared.refusal.Refusal.TheVariants.{BadKind, BadRotor}
use Rattle.entries.specs.Choice.{failed_of, case_of}
use Rattle.entries.proofs.Chosen.{case_chosen, refusal_chosen}
use Rattle.entries.proofs.Numbers.{kind_refused, rotor_refused, none_refused, rotor_passed}
use Rattle.entries.proofs.choice.choose.Goals as goal

pub returns-in-0-to-3-eq0 : goal.returns-in-0-to-3-eq0
returns-in-0-to-3-eq0 c =
    rw c.in-0-to-3-eq0.is-1 (case_chosen (rotor_passed _ (omega arith)) (c.unlost.ensures (omega arith)))

pub returns-in-0-to-3-1-to-255 : goal.returns-in-0-to-3-1-to-255
returns-in-0-to-3-1-to-255 c = refusal_chosen BadRotor (rotor_refused c.args.kind _ (omega arith) (omega arith))

pub returns-in-4-0-to-3 : goal.returns-in-4-0-to-3
unfolding case_of failed_of
returns-in-4-0-to-3 c =
    rw c.in-4-0-to-3.is-0 (case_chosen (none_refused _) (rw (lt-ltb c.args.rotor 4 (omega arith))))

pub returns-in-4-4-to-255 : goal.returns-in-4-4-to-255
unfolding case_of failed_of
returns-in-4-4-to-255 c =
    rw c.in-4-4-to-255.is-0 (case_chosen (none_refused _) (rw (le-ltb c.args.rotor 4 (omega arith))))

pub returns-in-5-to-255-default : goal.returns-in-5-to-255-default
returns-in-5-to-255-default c =
    refusal_chosen BadKind (kind_refused c.args.kind _ (omega arith))

-- `entries::choice::unlost` meets its contract: in each arm the kind is known, so the tests compute. Assumes nothing.
use mathlib.Core.Path.{◌≡◌, refl}
use native.Mathlib.Omega.{arith}
use Rattle.entries.specs.Choice.{case_of}
use Rattle.entries.proofs.choice.unlost.Goals as goal

pub returns-in-0 : goal.returns-in-0
unfolding case_of
returns-in-0 c = λ under. rw c.in-0.is refl

pub returns-in-1 : goal.returns-in-1
unfolding case_of
returns-in-1 c = λ under. rw c.in-1.is refl

pub returns-in-2 : goal.returns-in-2
unfolding case_of
returns-in-2 c = λ under. rw c.in-2.is refl

pub returns-in-3-to-255 : goal.returns-in-3-to-255
unfolding case_of
returns-in-3-to-255 c = λ under. let is : c.args.kind ≡ 3 = omega arith in rw is refl

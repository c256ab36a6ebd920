-- `MixerN::mix` meets its contract: the treated sums of all eight rows, lowered and limited; what it promises is a law
-- about the rule. Assumes nothing.
use mathlib.Core.Path.{◌≡◌}
use lib.ListN.{length}
use borrow.Author.Rules.{rules}
use Rattle.rules.specs.Frame.{frame_motors}
use Rattle.rules.proofs.Runs.{rows_count}
use Rattle.general.proofs.Held.{array_held}
use Rattle.rules.proofs.Keeps.{frame_keeps}
use Rattle.frame.specs.Mixer.{rows_in}
use Rattle.frame.proofs.MixerN.mix.Goals as goal

pub treated_sums-requires : goal.treated_sums-requires
treated_sums-requires c =
    let floats : length c.args.self.mix ≡ 32 = search rules in
    rw c.rows_of.ensures.rows (rows_count 8 c.args.self.mix floats)

pub returns : goal.returns
unfolding frame_motors
returns c =
    let args = c.args in
    let is : c.lower_and_limit.new.m
    ≡ frame_motors (rows_in args.self) args.torque_body args.thrust =
    simp (c.lower_and_limit.ensures, c.treated_sums.ensures, c.rows_of.ensures.rows) in
    record {
      is = is;
      keeps =
          rw is (frame_keeps (rows_in args.self) args.torque_body args.thrust
          (array_held 3 args.torque_body _ c.well_formed.1.0) (rw c.well_formed.1.1.0.1 tt));
    }

-- `QuadMixer::new` meets its contract: the sums of four +0 are three +0. Assumes nothing.
use mathlib.Core.Path.{sym}
use Rattle.quad.proofs.Torque.{fresh_holds}
use Rattle.quad.proofs.QuadMixer.new.Goals as goal

pub returns : goal.returns
returns c = simp (c.state.ensures, sym fresh_holds)

-- The states that calls from C reach from a fresh one, where they stand (document 02, K7). Definitions only.
use Rattle.std.specs.Prelude.{◌≡◌, List, ℕ}
use Rattle.quad.specs.declared.QuadMixer.{QuadMixer}
use Rattle.quad.specs.State.{fresh}
use Rattle.quad.specs.Reached.{MixedTo, ReachedBy}
use Rattle.exported.specs.Passed.{RanAs}

-- a state made anew, one of the five mixes, or a run of any bytes as a sheet into any output, accepted or refused
pub data LentTo (before after : QuadMixer) : Type 0 where
  by_new : after ≡ fresh → LentTo before after
  by_mix : MixedTo before after → LentTo before after
  by_run : (s out : List ℕ) (number i : ℕ) (written : List ℕ) → RanAs s before out number i after written
      → LentTo before after

abbrev pub LentReached : QuadMixer → Type 0
LentReached = ReachedBy LentTo

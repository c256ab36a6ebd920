-- The states that calls by value reach from a fresh one: by a mix, or by the run of a sheet (document 02, K7: "after
-- every mix, at the start, after a whole sheet and after a refused one, where nothing moved"). Definitions only.
use Rattle.std.specs.Prelude.{List, ℕ, Result}
use Rattle.quad.specs.declared.QuadMixer.{QuadMixer}
use Rattle.quad.specs.Reached.{MixedTo, ReachedBy}
use Rattle.sheet.specs.declared.Refused.{Refused}
use Rattle.sheet_run.specs.Run.{Ran}

-- one of the five mixes, or a run of any bytes as a sheet into any output, accepted or refused
pub data CalledTo (before after : QuadMixer) : Type 0 where
  by_mix : MixedTo before after → CalledTo before after
  by_run : (s out : List ℕ) (verdict : Result Unit Refused) (written : List ℕ) → Ran s before out verdict after written
      → CalledTo before after

abbrev pub Reached : QuadMixer → Type 0
Reached = ReachedBy CalledTo

-- `rotors::rows::rows_of` meets its contract: the rows of a run are its chunks of four. Assumes nothing.
use mathlib.Core.Path.{refl, ◌∙◌}
use Rattle.rules.specs.Rows.{row_at}
use Rattle.rules.proofs.Runs.{chunks_rows}
use Rattle.rotors.proofs.rows.rows_of.Goals as goal

pub returns-clause-rows : goal.returns-clause-rows
returns-clause-rows c = c.as_chunks.ensures.front ∙ chunks_rows _ c.args.run.now refl

pub returns-clause-past_the_last : goal.returns-clause-past_the_last
unfolding row_at
returns-clause-past_the_last c = λ i. rw (c.as_chunks.ensures.front, chunks_rows _ c.args.run.now refl)

-- The mix of 001 (document 01, 'Any airframe': "`Mixer` (001)"), and when it is refused. Definitions only; the
-- quotations are document 01's.
use Rattle.std.specs.Prelude.{Bool, not, ◌||◌, List, map, ℕ, ◌*◌, ltb, eqb, Float}
use Rattle.number.specs.Treat.{unit_clamp}
use Rattle.rules.specs.Rows.{Row}
use Rattle.rules.specs.Plain.{raw_sum}

-- "no treatment, no shift; four products, then `clamp01`": the motors of the wrench t, r, p, y
unfoldable pub wrench_motors : List Row → Float → Float → Float → Float → List Float
wrench_motors rows t r p y = map (λ row. unit_clamp (raw_sum t r p y row)) rows

-- "Up to 64 outputs"
abbrev pub max_outputs : ℕ
max_outputs = 64

-- whether a run of so many f32 does not go with so many outputs: "over 64 outputs, or rows not four for each output"
unfoldable pub rows_refused : ℕ → ℕ → Bool
rows_refused floats outputs = ltb max_outputs outputs || not (eqb floats (4 * outputs))

-- The motors of a wrench lie in 0..1, and what `mix` answers where it does not refuse. Assumes nothing.
use mathlib.Core.Path.{◌≡◌}
use mathlib.Core.Bool.{false}
use mathlib.Core.List.{List}
use lib.ListN.{length}
use lib.Ieee.{Float}
use Rattle.rules.specs.Rows.{Row, rows_of}
use Rattle.rules.specs.Multi.{rows_refused}
use Rattle.rules.proofs.Bounded.{wrench_unit}
use Rattle.multi.specs.declared.Wrench.{Wrench}
use Rattle.std.specs.Prelude.{Ok}
use Rattle.multi.specs.Wrench.{motors_of, Allocated, RowsMixed}

-- the motors of a wrench lie in 0..1
pub allocated : {rows : List Row} {w : Wrench} {motors : List Float} → motors ≡ motors_of w rows
    → Allocated rows w motors
allocated {rows} {w} e = record { is = e; unit = rw e (wrench_unit rows w.thrust w.roll w.pitch w.yaw) }

module _ {run : List Float} {w : Wrench} {before : List Float} where
  pub answer_mixed : {after : List Float} → rows_refused (length run) (length before) ≡ false
      → after ≡ motors_of w (rows_of run) → RowsMixed run w before (Ok tt) after
  answer_mixed e is = record { number = rw e; output = rw e is; unit = λ n. (allocated is).unit }

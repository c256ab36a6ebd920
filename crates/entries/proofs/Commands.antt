-- Which command a kind and a rotor byte give with their numbers, in one line for each kind. Assumes nothing.
use mathlib.Core.Path.{◌≡◌, refl}
use mathlib.Core.Bool.{Bool, true, false, cond}
use Prim.Native.Nat.{ℕ}
use lib.Dec.{eqb}
use lib.Ieee.{Float}
use Rattle.entries.specs.declared.choice.Case.{Case}
use Rattle.entries.specs.declared.choice.Case.TheVariants.{Plain as PlainCase, ThrustFloor as ThrustFloorCase}
use Rattle.entries.specs.declared.choice.Case.TheVariants.{Priority as PriorityCase}
use Rattle.entries.specs.declared.choice.Case.TheVariants.{Airmode as AirmodeCase, RotorOut as RotorOutCase}
use Rattle.entries.specs.declared.command.Demand.{Demand}
use Rattle.entries.specs.declared.command.Command.{Command}
use Rattle.entries.specs.declared.command.Command.TheVariants.{Plain, ThrustFloor, Priority, Airmode, RotorOut}
use Rattle.entries.specs.Choice.{failed_of, case_of}
use Rattle.entries.specs.Entry.{command_of}

pub command_by_kind : (kind rotor : ℕ) (d : Demand) (floor : Float)
    → command_of (case_of kind rotor) d floor
    ≡ cond (eqb kind 0) (Plain d)
    (cond (eqb kind 1) (ThrustFloor d floor)
    (cond (eqb kind 2) (Priority d floor)
    (cond (eqb kind 3) (Airmode d floor)
    (RotorOut (failed_of rotor) d floor))))
unfolding case_of command_of
command_by_kind kind rotor d floor = go (eqb kind 0) (eqb kind 1) (eqb kind 2) (eqb kind 3) (failed_of rotor)
  where
    case : Bool → Bool → Bool → Bool → ℕ → Case
    case a b c d lost =
        cond a PlainCase (cond b ThrustFloorCase (cond c PriorityCase (cond d AirmodeCase (RotorOutCase lost))))

    command : Bool → Bool → Bool → Bool → ℕ → Command
    command a b c e lost =
        cond a (Plain d) (cond b (ThrustFloor d floor)
        (cond c (Priority d floor) (cond e (Airmode d floor) (RotorOut lost d floor))))

    go : (a b c e : Bool) (lost : ℕ) → command_of (case a b c e lost) d floor ≡ command a b c e lost
    go true b c e lost = refl
    go false true c e lost = refl
    go false false true e lost = refl
    go false false false true lost = refl
    go false false false false lost = refl

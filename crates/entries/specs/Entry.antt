-- An entry of a sheet as "one command of five kinds, each carrying its own floats" (document 01, 'The command sheet
-- (ours)' and 'Language forms in the code'). Definitions only; the quotations are document 01's.
use Rattle.std.specs.Prelude.{List, [], ◌∷◌, ℕ, Float}
use Rattle.entries.specs.declared.choice.Case.{Case}
use Rattle.entries.specs.declared.choice.Case.TheVariants.{Plain as PlainCase, ThrustFloor as ThrustFloorCase}
use Rattle.entries.specs.declared.choice.Case.TheVariants.{Priority as PriorityCase}
use Rattle.entries.specs.declared.choice.Case.TheVariants.{Airmode as AirmodeCase, RotorOut as RotorOutCase}
use Rattle.entries.specs.declared.command.Demand.{Demand}
use Rattle.entries.specs.declared.command.Command.{Command}
use Rattle.entries.specs.declared.command.Command.TheVariants.{Plain, ThrustFloor, Priority, Airmode, RotorOut}
use Rattle.entries.specs.Layout.{kind_of, rotor_of, number_in}
use Rattle.entries.specs.Choice.{case_of}

-- the command of a case with its numbers: thrust, roll, pitch, yaw "and, except for plain, floor"
unfoldable pub command_of : Case → Demand → Float → Command
command_of PlainCase d floor = Plain d
command_of ThrustFloorCase d floor = ThrustFloor d floor
command_of PriorityCase d floor = Priority d floor
command_of AirmodeCase d floor = Airmode d floor
command_of (RotorOutCase failed) d floor = RotorOut failed d floor

-- thrust and torque, of roll, pitch and yaw
abbrev pub demand : Float → Float → Float → Float → Demand
demand t r p y = record { thrust = t; torque = r ∷ p ∷ y ∷ [] }

-- of the numbers that stand in the body of entry i
unfoldable pub command_with : List ℕ → ℕ → Case → Command
command_with s i c =
    command_of c (demand (number_in s i 0) (number_in s i 1) (number_in s i 2) (number_in s i 3)) (number_in s i 4)

-- the command of entry i, where it has one
unfoldable pub command_at : List ℕ → ℕ → Command
command_at s i = command_with s i (case_of (kind_of s i) (rotor_of s i))

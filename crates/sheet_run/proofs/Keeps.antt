-- Every answer of a run keeps what its mix promises: the numbers of a sheet are f32s, whatever its bytes. Assumes
-- nothing.
use mathlib.Core.Path.{refl}
use mathlib.Core.List.{List, [], ◌∷◌}
use Prim.Native.Nat.{ℕ, zero, suc}
use lib.Dec.{T}
use lib.ListN.{get_or}
use lib.Ieee.{Float, nan, binary32, fits}
use lib.Ieee.Bits.{of_bits-fits}
use lib.Ieee.Fits.{nan-fits}
use Rattle.rules.specs.Rows.{quad_rows}
use Rattle.rules.proofs.Keeps.{plain_keeps, thrust_floor_keeps, priority_keeps, airmode_keeps, rotor_out_keeps}
use Rattle.quad.specs.declared.QuadMixer.{QuadMixer}
use Rattle.quad.proofs.QuadMixed.{mixed}
use Rattle.entries.specs.declared.choice.Case.{Case}
use Rattle.entries.specs.declared.choice.Case.TheVariants.{Plain as PlainCase, ThrustFloor as ThrustFloorCase}
use Rattle.entries.specs.declared.choice.Case.TheVariants.{Priority as PriorityCase}
use Rattle.entries.specs.declared.choice.Case.TheVariants.{Airmode as AirmodeCase, RotorOut as RotorOutCase}
use Rattle.entries.specs.declared.command.Demand.{Demand}
use Rattle.entries.specs.declared.command.Command.{Command}
use Rattle.entries.specs.declared.command.Command.TheVariants.{Plain, ThrustFloor, Priority, Airmode, RotorOut}
use Rattle.entries.specs.Layout.{kind_of, rotor_of, number_in}
use Rattle.entries.specs.Choice.{case_of}
use Rattle.entries.specs.Entry.{command_of, command_with, command_at}
use Rattle.sheet_run.specs.Run.{called, Gives, EachKeeps, commands_from}

-- ---- a command of f32s

abbrev Held : Float → Type 0
Held x = T (fits binary32 x)

-- the numbers of a command that its mix's promises need are f32s
HeldIn : Command → Type 0
HeldIn (Plain d) = Held d.thrust × ((k : ℕ) → Held (get_or d.torque k nan))
HeldIn (ThrustFloor d floor) = Held d.thrust × Held floor
HeldIn (Priority d floor) = Held d.thrust × Held floor
HeldIn (Airmode d floor) = Held d.thrust × Held floor
HeldIn (RotorOut failed d floor) = Held floor

three_held : (r p y : Float) → Held r → Held p → Held y → (k : ℕ) → Held (get_or (r ∷ p ∷ y ∷ []) k nan)
three_held r p y hr hp hy zero = hr
three_held r p y hr hp hy (suc zero) = hp
three_held r p y hr hp hy (suc (suc zero)) = hy
three_held r p y hr hp hy (suc (suc (suc k))) = nan-fits binary32

called_gives : (q : QuadMixer) (c : Command) → HeldIn c → Gives q c (called q c)
unfolding called Gives HeldIn
called_gives q (Plain d) h = mixed refl (plain_keeps d.torque d.thrust h.1 h.0)
called_gives q (ThrustFloor d floor) h = mixed refl (thrust_floor_keeps quad_rows d.torque d.thrust floor h.0 h.1)
called_gives q (Priority d floor) h = mixed refl (priority_keeps quad_rows d.torque d.thrust floor h.0 h.1)
called_gives q (Airmode d floor) h = mixed refl (airmode_keeps quad_rows d.torque d.thrust floor h.0 h.1)
called_gives q (RotorOut failed d floor) h = mixed refl (rotor_out_keeps failed d.torque d.thrust floor h)

-- ---- a sheet's commands

number_held : (s : List ℕ) (i j : ℕ) → Held (number_in s i j)
unfolding number_in
number_held s i j = of_bits-fits binary32 _

of_held : (c : Case) (d : Demand) (floor : Float) → Held d.thrust → ((k : ℕ) → Held (get_or d.torque k nan))
    → Held floor → HeldIn (command_of c d floor)
unfolding command_of HeldIn
of_held PlainCase d floor ht hq hf = (ht, hq)
of_held ThrustFloorCase d floor ht hq hf = (ht, hf)
of_held PriorityCase d floor ht hq hf = (ht, hf)
of_held AirmodeCase d floor ht hq hf = (ht, hf)
of_held (RotorOutCase failed) d floor ht hq hf = hf

command_held : (s : List ℕ) (i : ℕ) → HeldIn (command_at s i)
unfolding command_at command_with
command_held s i =
    let held = number_held s i in
    of_held (case_of (kind_of s i) (rotor_of s i)) _ _ (held 0) (three_held _ _ _ (held 1) (held 2) (held 3)) (held 4)

-- ---- the run

pub each_keeps : (s : List ℕ) (q : QuadMixer) (i left : ℕ) → EachKeeps q (commands_from s i left)
unfolding EachKeeps commands_from
each_keeps s q i zero = tt
each_keeps s q i (suc left) =
    (called_gives q (command_at s i) (command_held s i), each_keeps s (called q (command_at s i)) (suc i) left)

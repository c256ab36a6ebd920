-- How structs and enums pass to C and back: as floats and numbers. (The quad's state passes as the struct that it is,
-- and needs no definition.) Definitions only.
use Rattle.std.specs.Prelude.{◌≡◌, List, ℕ, Float, Result, Ok, Err}
use Rattle.refusals.specs.Told.{Told}
use Rattle.frame.specs.declared.MixerN.{MixerN}
use Rattle.multi.specs.declared.Wrench.{Wrench}
use Rattle.multi.specs.Wrench.{MixAnswer, mix_number, RowsMixed}
use Rattle.multi_thrust_floor.specs.Floored.{FloorAnswer, floor_number, RowsFloored}
use Rattle.quad.specs.declared.QuadMixer.{QuadMixer}
use Rattle.sheet.specs.declared.Refused.{Refused}
use Rattle.sheet.specs.Table.{told_by}
use Rattle.sheet_run.specs.Run.{Ran}

-- the mixer of a matrix and a count
abbrev pub passed : List Float → ℕ → MixerN
passed matrix count = record { mix = matrix; n = count }

-- what a sheet is told, as document 01's number and the entry number
abbrev pub told : ℕ → ℕ → Told
told number i = record { number = number; of_entry = i }

-- `multi::mix`, whose answer passes as document 01's number
pub record Numbered (run : List Float) (w : Wrench) (before : List Float) (number : ℕ) (after : List Float)
    : Type 0 where
  pub answer : MixAnswer
  pub number_is : number ≡ mix_number answer
  pub mixed : RowsMixed run w before answer after

-- what is stored for a scale by `multi_thrust_floor::mix`: the one that comes with the answer, or what was held where
-- none does
abbrev pub stored : FloorAnswer → Float → Float
stored (Ok s) held = s
stored (Err bad) held = held

-- `multi_thrust_floor::mix`, whose answer passes as document 01's number and the scale
pub record FlooredAs (run : List Float) (w : Wrench) (floor : Float) (before : List Float) (held : Float)
    (number : ℕ) (after : List Float) (scale : Float) : Type 0 where
  pub answer : FloorAnswer
  pub number_is : number ≡ floor_number answer
  pub scale_is : scale ≡ stored answer held
  pub mixed : RowsFloored run w floor before answer after

-- `sheet_run::run`, whose verdict passes as its two numbers
pub record RanAs (s : List ℕ) (before : QuadMixer) (out : List ℕ)
    (number i : ℕ) (after : QuadMixer) (written : List ℕ) : Type 0 where
  pub verdict : Result Unit Refused
  pub told_is : told number i ≡ told_by verdict
  pub ran : Ran s before out verdict after written

-- The starred bench figures (document 01, 'Bench figures') as one table: what a rule answers, and what the paper says.
-- Definitions only.
use Rattle.std.specs.Prelude.{◌≡◌, List, [], ◌∷◌, ◌++◌, map, ℕ, take, Float}
use Rattle.std.specs.Float.{binary32}
use Rattle.std.specs.Float.Ieee.{neg, of_bits}
use Rattle.binary32.specs.Arithmetic.{0f, 1f}
use Rattle.rules.specs.Rows.{1/2, quad_rows, quad_x_rows}
use Rattle.rules.specs.Plain.{plain_motors}
use Rattle.rules.specs.ThrustFloor.{thrust_floor_scale, thrust_floor_motors}
use Rattle.rules.specs.Priority.{priority_motors}
use Rattle.rules.specs.Airmode.{airmode_motors}
use Rattle.rules.specs.RotorOut.{rotor_out_motors}
use Rattle.rules.specs.Frame.{frame_motors}
use Rattle.rules.specs.Promises.{2^24}

-- a line of the table: the figure's number, the rule's answer to its command, and the paper's
pub record Figure : Type 0 where
  pub number : ℕ
  pub answer : List Float
  pub paper : List Float

-- the thrust-floor figures show the scale after the motors
abbrev pub motors_and_scale : List Float → Float → Float → List Float
motors_and_scale torque thrust floor =
    thrust_floor_motors quad_rows torque thrust floor ++ (thrust_floor_scale quad_rows torque thrust floor ∷ [])

-- the numbers that the figures are made of
abbrev 1/8 : Float
1/8 = of_bits binary32 0x3e00_0000

abbrev 1/4 : Float
1/4 = of_bits binary32 0x3e80_0000

abbrev 5/8 : Float
5/8 = of_bits binary32 0x3f20_0000

abbrev 3/4 : Float
3/4 = of_bits binary32 0x3f40_0000

abbrev 2^24+4 : Float
2^24+4 = of_bits binary32 0x4b80_0002

abbrev 2^127 : Float
2^127 = of_bits binary32 0x7f00_0000

abbrev line : ℕ → List Float → List Float → Figure
line n a p = record { number = n; answer = a; paper = p }

-- the table, y being the yaw of figure 11, which may be anything; of `quad_x`'s eight motors the paper has the first
-- four
abbrev pub starred : Float → List Figure
starred y =
    line 1 (plain_motors quad_rows (1/4 ∷ 1/4 ∷ 0f ∷ []) 3/4) (1/2 ∷ 0f ∷ 1/2 ∷ 1f ∷ [])
    ∷ line 2 (plain_motors quad_rows (1/2 ∷ 0f ∷ 0f ∷ []) 1/4) (0f ∷ 0f ∷ 3/4 ∷ 3/4 ∷ [])
    ∷ line 3 (plain_motors quad_rows (0f ∷ 0f ∷ 0f ∷ []) 2^24) (1f ∷ 1f ∷ 1f ∷ 1f ∷ [])
    ∷ line 3 (plain_motors quad_rows (0f ∷ 0f ∷ 0f ∷ []) 2^24+4) (0f ∷ 0f ∷ 0f ∷ 0f ∷ [])
    ∷ line 4 (plain_motors quad_rows (neg 2^127 ∷ neg 1/4 ∷ neg 1/4 ∷ []) 2^127) (0f ∷ 0f ∷ 0f ∷ 0f ∷ [])
    ∷ line 4 (take 4 (frame_motors quad_x_rows (neg 2^127 ∷ neg 1/4 ∷ neg 1/4 ∷ []) 2^127)) (0f ∷ 0f ∷ 1/2 ∷ 0f ∷ [])
    ∷ line 5 (motors_and_scale (1/8 ∷ 1/8 ∷ 0f ∷ []) 1/2 1/4) (1/2 ∷ 1/4 ∷ 1/2 ∷ 3/4 ∷ 1f ∷ [])
    ∷ line 6 (motors_and_scale (1/2 ∷ 0f ∷ 0f ∷ []) 1/2 1/4) (1/4 ∷ 1/4 ∷ 3/4 ∷ 3/4 ∷ 1/2 ∷ [])
    ∷ line 7 (motors_and_scale (1/2 ∷ 0f ∷ 0f ∷ []) (neg 0f) 0f) (0f ∷ 0f ∷ neg 0f ∷ neg 0f ∷ neg 0f ∷ [])
    ∷ line 8 (priority_motors quad_rows (1/4 ∷ 0f ∷ 1/2 ∷ []) 1/2 0f) (0f ∷ 1/2 ∷ 1/2 ∷ 1f ∷ [])
    ∷ line 9 (airmode_motors quad_rows (1/4 ∷ 0f ∷ 0f ∷ []) 1/4 1/8) (1/8 ∷ 1/8 ∷ 5/8 ∷ 5/8 ∷ [])
    ∷ line 10 (airmode_motors quad_rows (2^127 ∷ 0f ∷ 0f ∷ []) 1/2 1/4) (1/4 ∷ 1/4 ∷ 1/4 ∷ 1/4 ∷ [])
    ∷ line 11 (rotor_out_motors 0 (1/4 ∷ neg 1/4 ∷ y ∷ []) 1/2 0f) (0f ∷ 5/8 ∷ 1/4 ∷ 5/8 ∷ [])
    ∷ []

-- the rules answer what the paper says, line for line
abbrev pub AllHold : List Figure → Type 0
AllHold figures = map (λ f. f.answer) figures ≡ map (λ f. f.paper) figures

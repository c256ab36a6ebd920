-- Rows: what each of thrust, roll, pitch and yaw counts for one rotor (document 01, 'The five quad mixes': "Rows
-- (thrust, roll, pitch, yaw)"). A frame is the list of its rotors' rows, and here are those of document 01. Definitions
-- only; the quotations are document 01's.
use Rattle.std.specs.Prelude.{List, [], ◌∷◌, ◌++◌, ℕ, get_or, replicate, Float}
use Rattle.std.specs.Float.{nan, binary32}
use Rattle.std.specs.Float.Ieee.{of_bits}
use Rattle.binary32.specs.Arithmetic.{0f, 1f}

-- four numbers in this order (past a row's end a number is `nan`, which no row here comes to)
abbrev pub Row : Type 0
Row = List Float

abbrev pub thrust_of : Row → Float
thrust_of row = get_or row 0 nan

abbrev pub roll_of : Row → Float
roll_of row = get_or row 1 nan

abbrev pub pitch_of : Row → Float
pitch_of row = get_or row 2 nan

abbrev pub yaw_of : Row → Float
yaw_of row = get_or row 3 nan

-- Rows as one run: "one run of f32, four for each output". What is left over at the end, under four, is no row.
unfoldable pub rows_of : List Float → List Row
rows_of (t ∷ r ∷ p ∷ y ∷ run) = (t ∷ r ∷ p ∷ y ∷ []) ∷ rows_of run
rows_of (t ∷ r ∷ p ∷ []) = []
rows_of (t ∷ r ∷ []) = []
rows_of (t ∷ []) = []
rows_of [] = []

-- and rows laid out as one run
unfoldable pub run_of : List Row → List Float
run_of [] = []
run_of (row ∷ rows) = row ++ run_of rows

-- the row of a rotor that counts for nothing
abbrev pub no_row : Row
no_row = 0f ∷ 0f ∷ 0f ∷ 0f ∷ []

-- the row at a place of a run, and past the last `no_row`
unfoldable pub row_at : List Float → ℕ → Row
row_at run i = get_or (rows_of run) i no_row

-- ---- the numbers that the rows of document 01 are made of, each by its bit pattern, as the code's tables hold it

abbrev pub -1f : Float
-1f = of_bits binary32 0xbf80_0000

abbrev pub 1/2 : Float
1/2 = of_bits binary32 0x3f00_0000

abbrev pub -1/2 : Float
-1/2 = of_bits binary32 0xbf00_0000

abbrev pub 866/1000 : Float
866/1000 = of_bits binary32 0x3f5d_b22d

abbrev pub -866/1000 : Float
-866/1000 = of_bits binary32 0xbf5d_b22d

abbrev pub 707/1000 : Float
707/1000 = of_bits binary32 0x3f34_fdf4

abbrev pub -707/1000 : Float
-707/1000 = of_bits binary32 0xbf34_fdf4

-- ---- the frames

-- "M1 1,-1,1,-1; M2 1,-1,-1,1; M3 1,1,-1,-1; M4 1,1,1,1"
unfoldable pub quad_rows : List Row
quad_rows =
    (1f ∷ -1f ∷ 1f ∷ -1f ∷ [])
    ∷ (1f ∷ -1f ∷ -1f ∷ 1f ∷ [])
    ∷ (1f ∷ 1f ∷ -1f ∷ -1f ∷ [])
    ∷ (1f ∷ 1f ∷ 1f ∷ 1f ∷ [])
    ∷ []

-- `quad_x` of 'Any airframe': the quad's rows, and rows of +0 up to eight
unfoldable pub quad_x_rows : List Row
quad_x_rows = quad_rows ++ replicate 4 no_row

-- "hex_x rows after thrust 1: (-1,0,1) (1,0,-1) (0.5,-0.866,1) (-0.5,0.866,-1) (-0.5,-0.866,-1) (0.5,0.866,1)"
unfoldable pub hex_rows : List Row
hex_rows =
    (1f ∷ -1f ∷ 0f ∷ 1f ∷ [])
    ∷ (1f ∷ 1f ∷ 0f ∷ -1f ∷ [])
    ∷ (1f ∷ 1/2 ∷ -866/1000 ∷ 1f ∷ [])
    ∷ (1f ∷ -1/2 ∷ 866/1000 ∷ -1f ∷ [])
    ∷ (1f ∷ -1/2 ∷ -866/1000 ∷ -1f ∷ [])
    ∷ (1f ∷ 1/2 ∷ 866/1000 ∷ 1f ∷ [])
    ∷ []

-- "octo_coax: (-0.707,0.707) yaw 1,-1; (0.707,-0.707) yaw 1,-1; (0.707,0.707) yaw -1,1; (-0.707,-0.707) yaw -1,1": four
-- arms of two rotors each
abbrev arm : Float → Float → Float → Float → List Row
arm r p y₁ y₂ = (1f ∷ r ∷ p ∷ y₁ ∷ []) ∷ (1f ∷ r ∷ p ∷ y₂ ∷ []) ∷ []

unfoldable pub octo_rows : List Row
octo_rows =
    arm -707/1000 707/1000 1f -1f ++ arm 707/1000 -707/1000 1f -1f
    ++ arm 707/1000 707/1000 -1f 1f ++ arm -707/1000 -707/1000 -1f 1f

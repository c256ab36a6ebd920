-- The quad's state, and what a mix answers: a new state whose motors are the answer (document 01, 'The five quad
-- mixes': "Every mix stores the motors it returns"). Beside the motors and the recorded scale it keeps the torque that
-- the motors give (document 02, K7: "Store those three sums in the quad state"). Definitions only.
use Rattle.std.specs.Prelude.{◌≡◌, List, [], ◌∷◌, Float}
use Rattle.binary32.specs.Arithmetic.{0f, 1f}
use Rattle.rules.specs.Rows.{quad_rows}
use Rattle.rules.specs.Torque.{torque_of}
use Rattle.quad.specs.declared.QuadMixer.{QuadMixer}

-- the state of these motors and this recorded scale: the sums are those that `motors_to_torque_signs` gives
abbrev pub state : List Float → Float → QuadMixer
state motors scale =
    record { last_motors = motors; last_torque_scale = scale; last_torque = torque_of quad_rows motors }

-- "A fresh state has four +0 and scale 1." K7: "The fresh state holds three +0."
abbrev pub fresh : QuadMixer
fresh =
    record {
      last_motors = 0f ∷ 0f ∷ 0f ∷ 0f ∷ [];
      last_torque_scale = 1f;
      last_torque = 0f ∷ 0f ∷ 0f ∷ [];
    }

-- K7: the stored sums "equal the fresh computation"
abbrev pub HoldsTorque : QuadMixer → Type 0
HoldsTorque q = q.last_torque ≡ torque_of quad_rows q.last_motors

-- A mix gives this state, by bits, and what it promises of the motors and the recorded scale holds of those in it. The
-- sums stored are those of its motors, whatever the state before was.
pub record QuadMixed (after : QuadMixer) (Keeps : List Float → Float → Type 0) (q : QuadMixer) : Type 0 where
  pub is : q ≡ after
  pub keeps : Keeps q.last_motors q.last_torque_scale
  pub torque : HoldsTorque q

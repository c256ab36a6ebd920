-- `Judged` has refusal 9 after the others, `AnswerBytes` how the output grows, `Walk` the run one command at a time,
-- and `ByVerdict` what a run is by its verdict. Then what is known of every run: `Keeps`, that each answer keeps what
-- its mix promises; `Torque`, that the state's sums are those of its motors; `Methods`, that it is the quad's methods
-- called one after another; `Prefix`, that an answer depends on no later command; `Room`, when refusal 9 cannot occur;
-- and `Determined`, that the contracts leave nothing open.
pub mod Judged
pub mod AnswerBytes
pub mod Walk
pub mod Keeps
pub mod ByVerdict
pub mod Torque
pub mod Methods
pub mod Prefix
pub mod Room
pub mod Determined

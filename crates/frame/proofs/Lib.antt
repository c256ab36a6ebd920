-- What the mixer of `quad_x` promises, and that each public contract determines its answer.
pub mod QuadX
pub mod Determined

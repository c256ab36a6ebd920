-- `Lost`: the lost rotor ends at +0.
mod Lost

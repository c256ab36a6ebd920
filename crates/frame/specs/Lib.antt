pub mod Mixer

pub mod Full
pub mod Opposite

pub mod Cuts
pub mod EndZeros
pub mod Kept
pub mod Limits
pub mod Scales
pub mod Told

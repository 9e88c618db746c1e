pub mod Part
pub mod Places
pub mod Size

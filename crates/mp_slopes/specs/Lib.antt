pub mod Derivative
pub mod Dual
pub mod Places

pub mod Accepted
pub mod Shown

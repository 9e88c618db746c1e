pub mod Plain
pub mod States
pub mod Expansion
pub mod Says
pub mod Faults

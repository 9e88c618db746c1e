pub mod Chains
pub mod From
mod Limits

pub mod Limit
pub mod Wide
pub mod Stated
pub mod Value

pub mod Stands
pub mod Capped
pub mod Counts
pub mod Ahead
pub mod Roots
pub mod Derived

pub mod Told
pub mod Rows
pub mod Given
pub mod Roots

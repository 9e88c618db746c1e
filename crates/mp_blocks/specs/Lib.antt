pub mod Marks
pub mod Paired
pub mod Rows

pub mod Results
pub mod Lines
pub mod Directives
pub mod Tree
pub mod Groups
pub mod Shown
pub mod Gives
pub mod Structure

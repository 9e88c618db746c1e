pub mod Text
pub mod Pieces
pub mod Steps
pub mod Parts
pub mod Named
pub mod Runs

mod AllRows
mod Heights
pub mod Interned
pub mod Kept
pub mod Nodes
pub mod Open
pub mod Fallen
pub mod Parts
pub mod Readable
pub mod Rows
pub mod Same
pub mod Walk

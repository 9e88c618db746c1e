pub mod Reading
pub mod Pieces
pub mod Format
pub mod Notation
pub mod Spelling
pub mod Whole

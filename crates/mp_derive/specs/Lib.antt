pub mod Counted
pub mod Extent
pub mod Listed
pub mod Gives

pub mod Earlier
pub mod Gives
pub mod Locals
pub mod Made
pub mod Parted
pub mod Parts

pub mod Equals
pub mod Lengths
pub mod Made
pub mod Names
pub mod Rows

pub mod Levels
pub mod Lists
pub mod Tags
pub mod Options
pub mod Productions
pub mod Statements
pub mod Grammar
pub mod Shocks

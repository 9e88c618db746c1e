pub mod Gives
pub mod Grammar
pub mod Meaning
pub mod Readings
pub mod Shown
pub mod Steps
pub mod Syntax
pub mod Tokens

pub mod Literals
pub mod Slices
pub mod Terminals
pub mod Tokens
pub mod Forms

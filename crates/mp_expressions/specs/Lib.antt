pub mod Script
pub mod Productions
pub mod Expressions
pub mod InForm

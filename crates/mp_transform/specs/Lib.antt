pub mod Canonical
pub mod Steps
pub mod Text
pub mod Wrong

pub mod Negations
pub mod Noted
pub mod Stands
pub mod Tables

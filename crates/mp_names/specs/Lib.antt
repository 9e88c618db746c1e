pub mod Coded
pub mod Entry
pub mod Full
pub mod Named
pub mod Naming
pub mod Numbers

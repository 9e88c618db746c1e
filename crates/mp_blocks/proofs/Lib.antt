pub mod Marks
pub mod Numbers
pub mod Occurring
pub mod Paired

pub mod Small
pub mod Zeros
pub mod Rows
pub mod Columns
pub mod Band
pub mod Lists
pub mod Quotients
pub mod Refusals

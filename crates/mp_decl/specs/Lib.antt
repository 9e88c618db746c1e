pub mod Exponents
pub mod Given
pub mod Search
pub mod Shown
pub mod Values
pub mod Walk
pub mod Whole
pub mod Walks

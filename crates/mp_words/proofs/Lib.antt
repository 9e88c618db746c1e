pub mod Defines
pub mod Refusals
pub mod Requests
pub mod Walk

pub mod Environments
pub mod Falls
pub mod Gathers
pub mod Made
pub mod Measures
pub mod Shared
pub mod Told
pub mod Values

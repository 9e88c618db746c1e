pub mod Assigned
pub mod Collected
pub mod Near
pub mod Reported
pub mod Shown

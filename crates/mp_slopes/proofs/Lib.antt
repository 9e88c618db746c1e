pub mod Agrees
pub mod Field
pub mod Has
pub mod Places
pub mod Powers
pub mod Sorted

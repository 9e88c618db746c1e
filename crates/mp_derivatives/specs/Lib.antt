pub mod Bound
pub mod Grammar
pub mod Meant
pub mod Records
pub mod Derivatives
pub mod Derived
pub mod Listed

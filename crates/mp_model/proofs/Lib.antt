pub mod Kept
pub mod Examples
pub mod Printed
pub mod Texts
pub mod Difference
pub mod Shifts

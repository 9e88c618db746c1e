pub mod Reach
pub mod Called
pub mod Faults
pub mod Stand
pub mod Equations

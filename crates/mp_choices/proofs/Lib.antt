pub mod InForm
pub mod Atoms
pub mod Bares

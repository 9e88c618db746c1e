pub mod Leaves
pub mod Auxiliaries
pub mod Transformed
pub mod Extension
pub mod Laws
pub mod ShortForm
pub mod Example

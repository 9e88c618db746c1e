pub mod Told
pub mod Spaced
pub mod ExprTrees
pub mod Atoms
pub mod Bares
pub mod FormLaws
pub mod Signs
pub mod Levels

pub mod FarShifts
pub mod FreeNames
pub mod Inverse
pub mod Places
pub mod ReadShifts
pub mod Told
pub mod WrongTokens

pub mod Headlines
pub mod WrongTokens
pub mod Steps

pub mod Headline
pub mod Example

pub mod Chains
pub mod Collects
pub mod Reported
pub mod Steps
pub mod Tens

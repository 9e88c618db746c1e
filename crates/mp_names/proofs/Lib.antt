pub mod Apart
pub mod EntryLaws
pub mod KeyLaws
pub mod Room

pub mod RunReads
pub mod Spelling
pub mod StoredLists

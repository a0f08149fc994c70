pub mod Removal
pub mod RowNames
pub mod RowReads
pub mod Rows
pub mod Spelling
pub mod RowChecks

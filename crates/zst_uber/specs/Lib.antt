pub mod Body
pub mod Slots
pub mod OpenAnswers
pub mod DiskCalls
pub mod Commit

pub mod Ptr
pub mod Faults
pub mod Blocks
pub mod ReadAnswers
pub mod IoStates
pub mod IoCalls
pub mod BlockWrites
pub mod KeptBlocks

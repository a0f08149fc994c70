pub mod Cached
pub mod WrittenBlocks
pub mod BlocksLaws
pub mod PtrLaws
pub mod TakenSectors
pub mod IoCallLemmas

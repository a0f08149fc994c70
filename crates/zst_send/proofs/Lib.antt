mod LookCosts
mod NextRecords
mod BlockDamage
mod BufferReads
mod GivenRecords
mod RecordPieces
mod ItemRuns
pub mod KnownPointers
mod WalkGaps
mod ItemCosts
mod PlanRows
mod ItemRecords
mod Sizes
mod KeptBlocks
mod WalkSteps
mod TouchedItems
pub mod SetDates
pub mod SetsBut
mod ListReads
mod SourceLists
pub mod StandingRows
mod SentTexts

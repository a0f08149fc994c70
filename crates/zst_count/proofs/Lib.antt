pub mod CountedSets
mod Counts
pub mod DataFaults
mod FirstSectors
pub mod MetLaws
pub mod MetCounts
pub mod ObjectSizes
pub mod ObjectWalks
pub mod ReadLeaves
pub mod StandingData
pub mod StandingObjects
pub mod RowCounts
pub mod RowWalks
pub mod SetFaults
pub mod StandingSets
pub mod StandingTexts

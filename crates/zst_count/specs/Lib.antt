pub mod DataDamage
pub mod FirstSectors
pub mod MetBlocks
pub mod PastLeaves
pub mod CountedRows
pub mod CountedSets
pub mod StandingData

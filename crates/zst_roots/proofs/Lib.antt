pub mod RowTurns
pub mod WalkedSnapshots
pub mod KeptRows
pub mod SparedRows
pub mod RowSums
pub mod TextMarks
pub mod FoundSectors
pub mod HeldMarks

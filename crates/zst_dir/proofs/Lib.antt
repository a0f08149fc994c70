mod Guids
mod Heads
mod InsertedRows
pub mod RemovalLemmas
pub mod Matches
mod Lengths
mod Loops
mod Namesets
mod NestedSnapshots
mod OneDirectory
mod ParsedNames
mod RowParts
mod Places
mod RisingLists
mod RowsTold
mod Sections
pub mod SnapshotRuns
mod SpelledRows
mod ReadFronts
mod TellingFields
mod Texts
mod Verdict
pub mod DroppedPartials
pub mod Lookups
pub mod NamedRows

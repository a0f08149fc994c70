mod AllowedItems
mod CarriedItems
mod CheckLaws
mod CheckedOutcomes
pub mod ExampleLaws
pub mod FindingLaws
pub mod Growth
pub mod ImageReadings
pub mod ItemStreams
mod NearItems
pub mod PassedRecords
mod TextBytes

pub mod AppliedRecords
pub mod Checks
pub mod Costs
pub mod Damage
pub mod Changed
pub mod Fills
pub mod AppliedRuns

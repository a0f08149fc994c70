pub mod Denials
pub mod Reports
pub mod DecidedStates
pub mod NumbersInTurn
pub mod NamedPlaces
pub mod Origins
pub mod Tests
pub mod NumberedPlaces
pub mod LastSnapshots
pub mod NearestPlaces
pub mod PlacedBookmarks
pub mod ComparedStates
pub mod NamedRows
pub mod FoundParts
pub mod ToldReports
mod TwoFaults
mod StatePlaces
mod LateDates
mod LateStates
mod StateDamage
mod ListRuns
mod SamePairs
mod OnlyPlaces
mod OwnSnapshots
mod RedactionSets
mod CheckedLists
mod ListDamage
mod ReportNames
mod DamagedPools

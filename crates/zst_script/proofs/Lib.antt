pub mod EventForms
pub mod ImagePlaces
pub mod LineEvents
mod LineExamples
pub mod LineNames
mod LineSplits
pub mod OneEvent
mod ReadLines
mod RoomBytes
mod LineEnds
mod Pendings
mod ReadingSteps
mod ReadScripts
pub mod WordCounts
pub mod WordLists
pub mod WordsOfLines

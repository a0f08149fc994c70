mod SameContents
mod OwnReceives
mod FoundSessions
mod OwnSends
mod OwnPartials
mod SessionLists
mod Worlds
mod BusySessions
mod Numbers
mod Matching
mod Frames
mod Ways
pub mod Beside
pub mod ReadPools
pub mod PossibleImages
pub mod OtherEvents
pub mod PoolRefusals
pub mod TakenBytes
pub mod ReadEvents
pub mod LookedPools
pub mod OpenedSends
pub mod OpenedReceives
pub mod BegunSends
pub mod EngineOpenings
pub mod EngineTakes
mod ChangedMatches
mod ChangedSides
mod PumpedFeeds
mod FedSessions
mod PumpSteps
pub mod UnmovedEngines
pub mod RemovedSessions
pub mod DroppedPieces
pub mod ClosedSends
mod SettledFeeds
pub mod EndedSessions
pub mod PoolOpenings
pub mod ReopenedPools
pub mod ReceiveEnds
pub mod CutReceives
mod LeastSessions
mod HeldThings
mod HeldSends
pub mod SparedBlocks
mod SteppedPools
mod SteppedWorlds
mod ToldTokens
mod CheckedPools
pub mod OpenedPools
pub mod EventMoments

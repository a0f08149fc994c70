mod Results
pub mod FeedSteps
mod RecordCounts
pub mod Rows
mod ReceivePlans
mod RecordEffects
pub mod RunningPools
pub mod StreamRecords
pub mod FirstRecords
pub mod AppliedRecords
pub mod FinishedReceives
pub mod FeedSequences
pub mod StoppedReceives
pub mod ReplicaLemmas
pub mod FreshReceives
pub mod ResumedReceives
mod Chains
mod CountedRows
mod RoomyReceives
mod LimitedReceives
mod TakenSends
mod AcceptedSends
mod PlannedReceives
mod RefusedFeeds
mod EndedReceives
mod Pieces
mod FeedFaults
mod KeptReceives
mod AlikeReceives
mod TakenItems
mod SendableStreams
mod MatchingBases
mod EarlierDates
mod Ancestry
mod GrownPartials
mod LatestBases
mod SourceStates
mod SoundPartials
mod SoundSnapshots
mod PoolInvariants
mod SoundFeeds
mod RedactedBases
mod Relays
mod ListedReceives
mod TextTokens

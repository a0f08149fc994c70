mod FirstPartials
mod RecordEffects
mod RecordCounts
mod OwnRefusals
mod DrainLemmas
mod PieceFronts
pub mod RecordOrder
mod HandedRecords
mod CoveredEnds
mod BatchStages
mod BatchMoves
mod ByteLimits
mod FeedAnswers
mod AnsweredFaults
pub mod CommitLemmas
pub mod PieceStages
pub mod FeedEnds
mod FedPools
mod DamageLemmas
pub mod SetOrigins
mod CostLemmas
mod TokenRows
pub mod PlanRefusals
mod KeptBlocks
mod ListedRows
mod KeptPartials
mod OutlastedReclaims
mod LeftRows
mod PlannedSets
mod WriteRuns
mod PassedRuns
mod RunWrites
mod RunSettles
mod Gatherings
mod DrainedRuns

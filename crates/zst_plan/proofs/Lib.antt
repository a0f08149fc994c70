mod LookupLemmas
mod Walk
mod Origins
mod SendChecks
mod BeginHeader
mod SendPlans
mod Components
mod LatestSnapshots
mod FirstPlaces
mod TextMarks
mod ReceiveChecks
mod ContainedBases
mod FirstElements
mod PlanTests
mod PlanSteps
mod AcceptedStreams
mod AcceptedTokens
mod RefusedStreams
mod SentTokens
pub mod AlikeAnswers
pub mod FoundTokens

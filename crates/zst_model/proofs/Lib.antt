mod SpacedTexts
pub mod RunLists
pub mod OneList
pub mod RunsOf
pub mod PushedRuns
pub mod Sizes
mod RisingGuids
pub mod OrderLaws
pub mod InsertedLaws
mod GuidFronts
pub mod Ancestry
pub mod BlockEnds
pub mod Booleans
pub mod DatedStates
pub mod FilteredLists
pub mod FoundElements
pub mod GuidLists
pub mod IndexTests
pub mod KeptPools
pub mod PassedLimits
pub mod NameTests
pub mod ObjectNumbers
pub mod Options
pub mod PlanFaults
pub mod Points
pub mod Results
pub mod UniqueElements
pub mod EmptyLists
pub mod ListTests
pub mod LowBytes

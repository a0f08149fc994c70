pub mod AppliedItems
pub mod DatedState
pub mod State

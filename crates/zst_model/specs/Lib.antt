pub mod states
pub mod sends
pub mod pools
pub mod refusals
pub mod fields

pub mod sends
pub mod histories
pub mod pools
mod examples

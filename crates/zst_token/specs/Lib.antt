pub mod PartialToken
pub mod Parser
pub mod Spelling

pub mod Courses
pub mod Feeds
pub mod Events
pub mod LawfulFeeds
pub mod LawfulWorlds
pub mod LawfulRuns
pub mod FedReplays

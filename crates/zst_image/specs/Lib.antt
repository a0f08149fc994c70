pub mod Bodies
pub mod Commits
pub mod CreateAnswers
pub mod Faults
pub mod FreedCommits
pub mod OpenAnswers
pub mod Reads

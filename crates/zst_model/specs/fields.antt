pub mod Guids
pub mod Lists
pub mod RunsOf
pub mod PushedRuns

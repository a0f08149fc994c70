pub mod Window
pub mod Place
pub mod Mark
pub mod Verdict
pub mod StandsFor
pub mod Steps
pub mod InputReads

pub mod Parts
pub mod NameEnds
pub mod Front
pub mod MarkedNames
pub mod Places
pub mod SnapshotNames
pub mod ComponentBytes

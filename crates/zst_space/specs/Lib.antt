pub mod FreeSectors
pub mod TakenExtents

pub mod Bits
pub mod Extents
pub mod MoreMarks

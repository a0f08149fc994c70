pub mod Copies
pub mod Bytes
pub mod CallLogLemmas
pub mod RangeLists

pub mod Grammar
pub mod WordFaults
pub mod Line
pub mod NameKinds
pub mod Words

mod Digits
mod Multiples
pub mod FrontWords
mod Tail
mod Texts
pub mod FieldsLaws
pub mod BytesLaws
pub mod WordLists

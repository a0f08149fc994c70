pub mod Passes
pub mod Damage
pub mod BuiltLists
pub mod Wanted

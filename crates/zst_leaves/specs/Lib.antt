pub mod Damage
pub mod Leaves
pub mod WrittenLeaves

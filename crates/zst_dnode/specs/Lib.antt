pub mod Dnode
pub mod Slot

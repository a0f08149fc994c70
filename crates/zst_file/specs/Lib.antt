pub mod Event
pub mod Note
pub mod FileHistory
pub mod Laws
pub mod FileDisk
pub mod Streams
pub mod Input
pub mod Output

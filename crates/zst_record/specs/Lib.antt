pub mod Formats
pub mod Heads
pub mod Table
pub mod Decoding
pub mod RecordValues
pub mod Payload
pub mod Laws

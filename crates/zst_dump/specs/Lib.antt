pub mod Parts
pub mod RecordLines
pub mod Summary

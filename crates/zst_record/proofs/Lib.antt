pub mod PaddedTexts
pub mod TableLaws
pub mod SizeLaws
pub mod BeginLaws
pub mod DecodingLaws
mod CheckedHeads
pub mod RecordValueLaws
pub mod StatedHeaders
pub mod PayloadNumbers
pub mod PayloadFields
pub mod PayloadWrites
pub mod PayloadLaws
pub mod HeadBytes

pub mod FirstFit
pub mod TakenExtentLemmas
pub mod FreeSectorsLaws
pub mod ExtentsInTurn

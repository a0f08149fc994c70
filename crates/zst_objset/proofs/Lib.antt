pub mod AnswerLaws
pub mod ChangePuts
mod CommandLaws
pub mod DamageLaws
pub mod EndLaws
pub mod FreeLaws
pub mod IndicesChanged
pub mod LeafLaws
pub mod LimitLaws
pub mod ObjectLaws
pub mod RangeLaws
pub mod SearchLaws
pub mod SetChangeLaws
pub mod SetGrowth
pub mod SetLaws
pub mod OneState
pub mod SetPuts
pub mod SlotLaws
pub mod SpillLaws
pub mod TightLaws
pub mod TreeFits
mod TreesWithin
pub mod RangeIndices
pub mod WriteLaws
pub mod RunLaws

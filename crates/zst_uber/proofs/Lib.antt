pub mod LatestLemmas
pub mod Stages
pub mod Decoding
pub mod SlotsLaws
pub mod BodyLaws

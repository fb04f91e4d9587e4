pub mod PartLaws
pub mod ReadBlock

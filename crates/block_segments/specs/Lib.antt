pub mod Segment
pub mod Kept

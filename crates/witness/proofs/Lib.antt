pub mod FullBlocks
pub mod Sharp

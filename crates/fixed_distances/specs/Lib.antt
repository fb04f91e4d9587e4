pub mod Multiples
pub mod Blocks
pub mod Distances

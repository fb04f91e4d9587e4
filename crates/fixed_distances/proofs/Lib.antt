pub mod Factor
pub mod Multiples
pub mod Degree16
pub mod Degree24
pub mod Blocks
pub mod Distances

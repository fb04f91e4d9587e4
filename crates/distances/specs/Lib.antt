pub mod Met
pub mod Distances

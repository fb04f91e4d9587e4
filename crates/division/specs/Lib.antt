pub mod Division
pub mod Generators
pub mod Laws

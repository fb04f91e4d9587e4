pub mod Polynomials
pub mod Laws

pub mod Polynomials
pub mod Distances
pub mod Parts
pub mod Questions
pub mod Returning
pub mod Sent
pub mod Examples
pub mod OneToOne

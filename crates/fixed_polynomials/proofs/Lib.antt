pub mod Polynomials
pub mod Bytes
pub mod Received
pub mod Words

pub mod Products
pub mod Squares
pub mod Coefficients
pub mod Spreading
pub mod Terms
pub mod Powers
pub mod Reduced

pub mod Tests
pub mod FiveOnes
pub mod Insertion
pub mod LowBits

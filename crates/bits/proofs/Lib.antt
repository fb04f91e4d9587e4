pub mod Strings
pub mod Bytes
pub mod Packing
pub mod WholeBytes
pub mod Differences
pub mod Tests
pub mod Mapped

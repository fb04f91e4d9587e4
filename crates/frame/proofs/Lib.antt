pub mod Stuffing
pub mod OneToOne
pub mod Words
pub mod Told
pub mod Sizes

pub mod Stepping
pub mod Writers
pub mod Written

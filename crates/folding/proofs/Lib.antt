pub mod Fold
pub mod Added
pub mod Turn
pub mod WordLaws
pub mod Rows
pub mod Multiples
pub mod Contents
pub mod Steps

pub mod Telling
pub mod OneToOne
pub mod Verdicts

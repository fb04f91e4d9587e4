pub mod Residues
pub mod Outcomes
pub mod OneToOne
pub mod Histories
pub mod Window

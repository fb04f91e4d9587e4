pub mod Length
pub mod Agreement
pub mod OneToOne

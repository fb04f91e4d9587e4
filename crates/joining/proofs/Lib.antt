pub mod Joined
pub mod Contents
pub mod Starts
pub mod Answering
pub mod OneToOne

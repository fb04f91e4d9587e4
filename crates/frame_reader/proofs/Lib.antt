pub mod HandingOut
pub mod ReadFrame
pub mod Spare

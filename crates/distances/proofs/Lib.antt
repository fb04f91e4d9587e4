pub mod FewOnes
pub mod ZeroFrames
pub mod FramePairs
pub mod Distances

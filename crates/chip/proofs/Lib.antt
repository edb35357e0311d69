pub mod Bytes
pub mod Cycles
pub mod Fills
pub mod Ranges
pub mod Soundness

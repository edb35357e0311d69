pub mod Slips
pub mod Hands

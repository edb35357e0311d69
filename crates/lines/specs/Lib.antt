pub mod Cuts
pub mod Fields
pub mod Inputs
pub mod Lines
pub mod Numbers
pub mod Tokens

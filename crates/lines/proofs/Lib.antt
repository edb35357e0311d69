pub mod Cuts
pub mod Pieces

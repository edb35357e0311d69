pub mod Figures
pub mod Takes

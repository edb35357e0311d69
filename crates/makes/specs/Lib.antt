pub mod Table
pub mod Pac193x
pub mod Pac194x
pub mod Figures
pub mod Theorems
pub mod Lawful193x
pub mod Layouts
pub mod Lawful194x

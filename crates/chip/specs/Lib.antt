pub mod Refusals
pub mod Registers
pub mod Datasheet
pub mod Driver
pub mod Chip
pub mod Laws

pub mod Chips
pub mod Histories
pub mod Calms
pub mod Moving
pub mod Assembly
pub mod Benches
pub mod Wires
pub mod Turning

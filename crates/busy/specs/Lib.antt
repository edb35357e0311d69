pub mod Events
pub mod Runs
pub mod Plain
pub mod Statements
pub mod Wires
pub mod Worked
pub mod Turning
pub mod Theorems

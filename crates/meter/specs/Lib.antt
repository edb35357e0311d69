pub mod Outstanding
pub mod Settles
pub mod Views
pub mod Readings
pub mod Promises
pub mod Parts

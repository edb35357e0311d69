pub mod Hand
pub mod Standing
pub mod Promises

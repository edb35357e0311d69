pub mod Asks
pub mod Kinds
pub mod Prints
pub mod Obeyed
pub mod Runs
pub mod Sessions
pub mod Texts

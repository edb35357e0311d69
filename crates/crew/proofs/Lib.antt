pub mod Histories
pub mod Openings
pub mod Readings
pub mod Runs
pub mod Sessions
pub mod Texts

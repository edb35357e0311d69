pub mod Wire
pub mod Direct
pub mod Scripts
pub mod Scripted
pub mod Theorems
pub mod Directs
pub mod Reactions
pub mod Scripteds

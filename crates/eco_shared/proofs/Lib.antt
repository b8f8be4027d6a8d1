pub mod Common
pub mod Keeps
pub mod OneEnd
pub mod Repeats

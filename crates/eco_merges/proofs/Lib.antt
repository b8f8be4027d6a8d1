pub mod Common
pub mod Merges

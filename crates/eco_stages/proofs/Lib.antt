pub mod Common
pub mod Counted
pub mod Fields
pub mod InTurn
pub mod Keeping

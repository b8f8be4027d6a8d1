pub mod Common
pub mod Steps
pub mod Totals

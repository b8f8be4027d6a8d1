pub mod Common
pub mod Allowed
pub mod Called
pub mod Entries
pub mod Fields
pub mod Refused
pub mod RowSums
pub mod Taken

pub mod Ships
pub mod Twins

pub mod Mixing
pub mod Ships
pub mod Wakes

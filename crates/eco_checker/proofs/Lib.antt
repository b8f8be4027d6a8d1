pub mod Common
pub mod Bytes
pub mod Lines
pub mod Listed
pub mod Numbers
pub mod Scripts

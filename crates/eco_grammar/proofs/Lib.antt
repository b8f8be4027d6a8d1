pub mod Common
pub mod Built
pub mod Kept
pub mod Queried
pub mod Reread
pub mod Rows
pub mod Spelled

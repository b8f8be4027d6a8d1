pub mod Histories
pub mod Repeating
pub mod Sharing
pub mod Views

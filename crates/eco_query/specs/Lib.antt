pub mod Canonical
pub mod Queries

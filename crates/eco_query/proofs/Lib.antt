pub mod Common
pub mod Booleans
pub mod Entries
pub mod Matched
pub mod SameQueries

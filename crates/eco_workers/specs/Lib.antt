pub mod Alone
pub mod Batches
pub mod Entries
pub mod Rounds
pub mod Workers

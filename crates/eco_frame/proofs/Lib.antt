pub mod Common
pub mod Columns
pub mod Alike
pub mod Batched
pub mod Between
pub mod Chunked
pub mod Chunks
pub mod Cut
pub mod Fresh
pub mod Grouped
pub mod Merged
pub mod Placed
pub mod Ran
pub mod Recorded
pub mod Runs
pub mod Shown
pub mod Turns
pub mod Within
pub mod Typed
mod Brings
mod Clashes
mod Done
mod Joins
mod Keyed
mod Members
mod Once
mod Orders
mod Overlapped
mod Parts
mod Patterns
mod Same
pub mod BatchesCommon

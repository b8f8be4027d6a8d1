pub mod Commands
pub mod Merging
pub mod Outcomes
pub mod Recorded
pub mod Taking

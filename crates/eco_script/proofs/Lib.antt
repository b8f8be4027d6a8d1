pub mod Alone
pub mod Commands
pub mod Common
pub mod Declared
pub mod Determined
pub mod Editions
pub mod Ends
pub mod FormatsCommon
pub mod Joined
pub mod MergeSteps
mod Parts
pub mod PrintedCommon
pub mod Recorded
pub mod Runs

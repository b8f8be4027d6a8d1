pub mod Acts
pub mod Common
pub mod Decodes
pub mod Devices
pub mod DevicesCommon
pub mod Parts
pub mod Values

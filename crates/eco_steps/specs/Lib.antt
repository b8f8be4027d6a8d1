pub mod Actions
pub mod Beginning
pub mod Commands
pub mod Decode
pub mod Laws
pub mod Script
pub mod Steps
pub mod Views

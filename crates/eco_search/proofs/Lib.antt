pub mod Common
pub mod Among
pub mod Search

pub mod Faults
pub mod Grammar
pub mod Marks
pub mod Reader
pub mod Tokens
pub mod Views

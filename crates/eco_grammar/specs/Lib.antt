pub mod LastTerms
pub mod Proper
pub mod Readings

pub mod Clean
pub mod Faults
pub mod Laws
pub mod Lines
pub mod Places
pub mod Told
pub mod Verdicts

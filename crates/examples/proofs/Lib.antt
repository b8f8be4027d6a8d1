pub mod Sailing

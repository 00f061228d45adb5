pub mod Turned
pub mod Turns

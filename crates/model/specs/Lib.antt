pub mod Calls
pub mod Middle
pub mod Overlap
pub mod Runs
pub mod Standing
pub mod Choices
pub mod Law

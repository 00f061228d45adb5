pub mod Answers
pub mod Entries
pub mod Powers
pub mod Blocks
pub mod Cover

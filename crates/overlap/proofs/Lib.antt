pub mod Counts
pub mod Products
pub mod Comparable
pub mod Groups

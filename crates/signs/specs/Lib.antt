pub mod Faults
pub mod Sums
pub mod Family
pub mod Cover
pub mod Offset
pub mod Shifts
pub mod SumsLemmas

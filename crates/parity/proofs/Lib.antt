pub mod Bch3Sums
pub mod Eh3Sums
pub mod Masks
pub mod Figured

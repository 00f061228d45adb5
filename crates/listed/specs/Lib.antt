pub mod Listed
pub mod Cells
pub mod SignTable

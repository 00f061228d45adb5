pub mod Parity
pub mod Figures
pub mod Half
pub mod ParityLemmas

pub mod Cuts
pub mod Sums
pub mod Sealing

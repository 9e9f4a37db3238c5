pub mod Pushes
pub mod Sizes
pub mod Taking
pub mod Writing
pub mod Same

pub mod Runs
pub mod Screen
pub mod Steps
pub mod Legal
pub mod Arrival
pub mod Placed
pub mod Stretches

pub mod Layouts
pub mod Numbers
pub mod Sendings
pub mod Sound
pub mod Writes

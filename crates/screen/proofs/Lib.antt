pub mod Calls
pub mod FirstRun
pub mod Lasting
pub mod Readers

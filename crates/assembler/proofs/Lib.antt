pub mod Agreeing
pub mod Assembling
pub mod Bits
pub mod Buffers
pub mod Growing
pub mod Joins
pub mod Offering
pub mod Tests

pub mod Assembling
pub mod Contents
pub mod Holding
pub mod Marks
pub mod Offers
pub mod Reading
pub mod Taking

pub mod Format
pub mod Fronts
pub mod Lines
pub mod LinesLeft
pub mod Listing
pub mod Reading
pub mod Refusals
pub mod Words

pub mod BigEndian
pub mod Check
pub mod Checksum
pub mod Faults
pub mod Kind
pub mod Parts
pub mod Checked
pub mod Calls

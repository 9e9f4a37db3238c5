pub mod Edits
pub mod Entries
pub mod Journals
pub mod Rows
pub mod Bytes

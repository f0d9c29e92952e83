pub mod Crc
pub mod Folding
pub mod Reading
pub mod Rows
pub mod Spelling

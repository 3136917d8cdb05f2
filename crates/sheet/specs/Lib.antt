pub mod Bytes
pub mod Rows
pub mod Readers
pub mod Reading
pub mod Encoding

pub mod Readers
pub mod Seen

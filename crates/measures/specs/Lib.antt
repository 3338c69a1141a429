pub mod Values
pub mod Bytes
pub mod Answers
pub mod Meaning
pub mod Kinds
pub mod Laws
pub mod Words

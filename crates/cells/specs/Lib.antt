pub mod Order
pub mod Listed
pub mod Hash
pub mod Groups
pub mod Places
pub mod Columns
pub mod Contributions

pub mod Ordered
pub mod Lookups
pub mod InOrder
pub mod Sorting
pub mod Columnwise
pub mod Heard
pub mod Bits

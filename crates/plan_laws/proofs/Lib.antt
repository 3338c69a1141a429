pub mod Stepping
pub mod Prefixes
pub mod Keeping
pub mod Going

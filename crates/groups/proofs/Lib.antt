pub mod Walks
pub mod Links
pub mod Puts
pub mod Sorts
pub mod Props
pub mod Holding

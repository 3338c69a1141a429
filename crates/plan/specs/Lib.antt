pub mod Lines
pub mod Drafts
pub mod Machine
pub mod Promises

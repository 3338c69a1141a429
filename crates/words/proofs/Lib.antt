pub mod Spelling
pub mod Tabling
pub mod Walking

pub mod Lexemes
pub mod Spots
pub mod Cutting
pub mod Tables

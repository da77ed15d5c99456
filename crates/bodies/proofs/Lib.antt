pub mod Numbering
pub mod Fours
pub mod Ranging
pub mod Encoding

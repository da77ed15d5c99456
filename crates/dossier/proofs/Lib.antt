pub mod Piling
pub mod Lawful
pub mod Bounding

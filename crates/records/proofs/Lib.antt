pub mod Unmapped
pub mod Words
pub mod Items

pub mod Refusing
pub mod Searching

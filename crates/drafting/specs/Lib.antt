pub mod Book
pub mod Progress
pub mod Drafted

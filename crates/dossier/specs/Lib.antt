pub mod Meaning
pub mod Building
pub mod Law
pub mod Opened
pub mod Reported

pub mod Reading
pub mod Asking
pub mod Firing

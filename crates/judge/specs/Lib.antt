pub mod Number
pub mod Walk
pub mod Acceptance
pub mod Safety
pub mod Law
pub mod Play
pub mod Text

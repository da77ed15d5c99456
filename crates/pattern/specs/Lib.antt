pub mod Number
pub mod Meaning
pub mod Duty
pub mod Run
pub mod Call
pub mod Text

pub mod Number
pub mod Fault
pub mod Bytes
pub mod Record
pub mod Order
pub mod Field
pub mod Each

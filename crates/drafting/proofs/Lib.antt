pub mod Heads
pub mod Taking

pub mod State
pub mod Follow
pub mod Number
pub mod Renamed

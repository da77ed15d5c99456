pub mod Failing
pub mod Listing
pub mod Following
pub mod Renaming

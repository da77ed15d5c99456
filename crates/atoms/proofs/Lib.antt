pub mod Setting
pub mod Changing
pub mod Opening
pub mod Deciding
pub mod Ranged
pub mod Steps
pub mod Standing
pub mod Firing

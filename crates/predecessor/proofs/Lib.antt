pub mod Ordering
pub mod Leading
pub mod Inexact
pub mod Loops
pub mod Examples

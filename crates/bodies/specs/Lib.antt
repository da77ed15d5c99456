pub mod Literal
pub mod Lists
pub mod Rule
pub mod Encoding

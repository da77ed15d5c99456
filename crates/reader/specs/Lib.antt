pub mod Dossier
pub mod Form
pub mod Encode
pub mod Read

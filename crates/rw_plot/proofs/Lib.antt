pub mod Escapes
pub mod Headers
pub mod Named
pub mod Rows

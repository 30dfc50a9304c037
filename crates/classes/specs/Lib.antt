pub mod Rows
pub mod Forests

pub mod Contents
pub mod Ranges

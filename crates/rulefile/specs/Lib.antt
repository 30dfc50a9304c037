pub mod Rulebooks
pub mod Refusals
pub mod Written
pub mod Fits
pub mod Outputs

pub mod Claiming
pub mod Answering
pub mod Telling

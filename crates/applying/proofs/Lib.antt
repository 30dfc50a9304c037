pub mod Changing
pub mod Filling
pub mod Storing
pub mod Pushing

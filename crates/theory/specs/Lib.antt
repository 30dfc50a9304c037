pub mod Meanings
pub mod Says
pub mod Runs
pub mod Wholes
pub mod Claims
pub mod Texts

pub mod Answers
pub mod Lists
pub mod Values
pub mod Primitives
pub mod Domains

pub mod Ahead
pub mod RuleParts
pub mod Tails
pub mod FileParts

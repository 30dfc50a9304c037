pub mod Changes
pub mod Visits
pub mod Steps

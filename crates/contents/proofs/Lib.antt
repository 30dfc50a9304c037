pub mod Signs
pub mod Names

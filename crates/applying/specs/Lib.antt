pub mod Bodies
pub mod Fillers

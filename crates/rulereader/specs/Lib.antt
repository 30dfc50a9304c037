pub mod Reads
pub mod Heads
pub mod Contents
pub mod Ends

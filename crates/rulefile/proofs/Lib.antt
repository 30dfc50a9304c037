pub mod Buffers
pub mod Encodings
pub mod Fitting
pub mod Copies

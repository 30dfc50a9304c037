pub mod Fronts
pub mod FrontsLemmas

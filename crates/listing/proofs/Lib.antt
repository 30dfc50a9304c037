pub mod Separations
pub mod RuleTexts
pub mod ListingTexts
pub mod Steps

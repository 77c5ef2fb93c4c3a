pub mod OneOutcome
pub mod Exactly

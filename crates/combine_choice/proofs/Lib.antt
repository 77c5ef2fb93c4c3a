pub mod HeldAnswers
pub mod Choices

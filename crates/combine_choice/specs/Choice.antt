-- choices: of two parsers, of halves, and of a parser or nothing
pub mod Alternatives
pub mod ChoiceCalls
pub mod Choices
pub mod FirstAlternative
pub mod Optional
pub mod ChoiceErrors
pub mod Or
